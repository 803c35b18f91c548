-- The goals at which wrong bodies are refused.
use Rattle.std.proofs.Common.{rules}
use Rattle.of_ihandles.proofs.instances.Instances.parent.Goals as goal

pub returns : goal.returns
returns c = search rules
