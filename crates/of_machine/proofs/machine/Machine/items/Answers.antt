-- The goals at which wrong bodies are refused.
use Rattle.std.proofs.Common.{rules}
use Rattle.of_machine.proofs.machine.Machine.items.Goals as goal

pub returns : goal.returns
returns g c = search rules
