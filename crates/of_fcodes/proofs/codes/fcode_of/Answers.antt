-- The goals at which wrong bodies are refused.
use Rattle.std.proofs.Common.{rules}
use Rattle.of_fcodes.proofs.IndexLemmas.{rows_hashed}
use Rattle.of_fcodes.proofs.codes.fcode_of.Goals as goal

pub returns : goal.returns
returns c = search (rules, rows_hashed)
