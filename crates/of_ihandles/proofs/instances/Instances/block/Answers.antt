-- The goals at which wrong bodies are refused.
use Rattle.std.proofs.Common.{arith}
use Rattle.std.proofs.lemmas.Grind.{elements}
use Rattle.of_ihandles.proofs.instances.Instances.block.Goals as goal

pub returns-in-Some-at : goal.returns-in-Some-at
returns-in-Some-at c = grind (arith, elements)

pub returns-in-None : goal.returns-in-None
returns-in-None c = grind (arith, elements)
