-- The goals at which wrong bodies are refused.
use Rattle.std.proofs.Common.{rules}
use Rattle.of_stacks.specs.Unwinding.{latest_handler, beneath_handler}
use Rattle.of_stacks.proofs.return_stack.ReturnStack.+cut.Goals as goal

pub returns-in-Some-Handler-clause-items : goal.returns-in-Some-Handler-clause-items
unfolding latest_handler beneath_handler
returns-in-Some-Handler-clause-items t c = search rules
