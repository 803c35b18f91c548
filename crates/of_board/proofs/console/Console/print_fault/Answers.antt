-- The goals at which wrong bodies are refused.
use Rattle.std.proofs.Common.{rules}
use Rattle.of_board.proofs.console.Console.print_fault.Goals as goal

pub invariant_of-self : goal.invariant_of-self
invariant_of-self c = search rules
