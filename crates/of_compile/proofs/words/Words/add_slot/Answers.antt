-- The goals at which wrong bodies are refused.
use Rattle.std.proofs.Common.{rules}
use Rattle.of_compile.proofs.WordsLemmas.{taken_back}
use Rattle.of_compile.proofs.words.Words.add_slot.Goals as goal

pub returns-in-Err-clause-words_stay : goal.returns-in-Err-clause-words_stay
returns-in-Err-clause-words_stay c = search (rules, taken_back)
