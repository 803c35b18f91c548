-- The goals at which wrong bodies are refused.
use Rattle.std.proofs.Common.{rules}
use Rattle.of_ihandles.proofs.instances.Instances.slot_span.Goals as goal

pub returns-in_err-block : goal.returns-in_err-block
returns-in_err-block c = search rules

pub returns : goal.returns
returns c = search rules
