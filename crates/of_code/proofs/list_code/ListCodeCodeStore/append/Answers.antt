-- The goals at which wrong bodies are refused.
use Rattle.std.proofs.Common.{rules}
use Rattle.of_code.proofs.list_code.ListCodeCodeStore.append.Goals as goal

pub returns-in_err-extend_from_slice-clause-code : goal.returns-in_err-extend_from_slice-clause-code
returns-in_err-extend_from_slice-clause-code c = search rules

pub invariant_of-self-2 : goal.invariant_of-self-2
invariant_of-self-2 c = search rules

pub returns-clause-code : goal.returns-clause-code
returns-clause-code c = search rules
