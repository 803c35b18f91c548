use Rattle.std.proofs.Common.{refl}
use Rattle.of_fcodes.specs.Words.{words, first_words, second_words, third_words, fourth_words, fifth_words, sixth_words}
use Rattle.of_fcodes.specs.Words.{seventh_words, eighth_words}
use Rattle.of_fcodes.proofs.written.list.Goals as goal

pub returns : goal.returns
unfolding words first_words second_words third_words fourth_words fifth_words sixth_words seventh_words eighth_words
returns c = refl
