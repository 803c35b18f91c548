-- The goals at which wrong bodies are refused.
use Rattle.std.proofs.Common.{rules}
use Rattle.of_fcodes.proofs.IndexLemmas.{words_hashed}
use Rattle.of_fcodes.proofs.written.word_with_name.Goals as goal

pub returns : goal.returns
returns c = search (rules, words_hashed)
