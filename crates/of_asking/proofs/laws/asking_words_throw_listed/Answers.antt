use Rattle.of_asking.proofs.ListedLemmas.{throw_listed_numbers}
use Rattle.of_asking.proofs.laws.asking_words_throw_listed.Goals as goal

pub returns : goal.returns
returns c = throw_listed_numbers c.prims_throw_listed.ensures
