-- The goals at which wrong bodies are refused.
use Rattle.std.proofs.Common.{rules}
use Rattle.of_flow.proofs.control.keeps_rest.Goals as goal

pub returns-in-Loop : goal.returns-in-Loop
returns-in-Loop c = search rules
