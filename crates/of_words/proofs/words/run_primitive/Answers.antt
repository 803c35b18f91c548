-- The goals at which wrong bodies are refused.
use Rattle.std.proofs.Common.{rules}
use Rattle.of_words.proofs.words.run_primitive.Goals as goal

pub returns-in_err-prim-clause-value : goal.returns-in_err-prim-clause-value
returns-in_err-prim-clause-value c = search rules

pub returns-clause-value : goal.returns-clause-value
returns-clause-value c = search rules
