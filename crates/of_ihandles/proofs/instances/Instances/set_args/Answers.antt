-- The goals at which wrong bodies are refused.
use Rattle.std.proofs.Common.{arith}
use Rattle.std.proofs.lemmas.Grind.{common_steps}
use Rattle.of_ihandles.proofs.instances.Instances.set_args.Goals as goal

pub returns-in_err-copy : goal.returns-in_err-copy
returns-in_err-copy c = grind (arith, common_steps)

pub returns : goal.returns
returns c = grind (arith, common_steps)
