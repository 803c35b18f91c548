-- The written words that a text has.
use Rattle.std.proofs.Common.{refl}
use Rattle.of_fcodes.specs.Finding.{word_with_name}
use Rattle.of_fcodes.specs.Words.{words, first_words, second_words, third_words, fourth_words, fifth_words, sixth_words}
use Rattle.of_fcodes.specs.Words.{seventh_words, eighth_words}
use Rattle.of_text.specs.Laws.{StreamWordsHaveNoName}

pub stream_words_have_no_name : StreamWordsHaveNoName
unfolding word_with_name words first_words second_words third_words fourth_words fifth_words sixth_words seventh_words
    eighth_words
stream_words_have_no_name = refl
