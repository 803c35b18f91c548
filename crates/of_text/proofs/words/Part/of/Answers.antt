use Rattle.std.proofs.Common.{arith}
use Rattle.std.proofs.lemmas.Grind.{common_steps}
use Rattle.of_text.proofs.words.Part.of.Goals as goal

pub returns-then-count-rest : goal.returns-then-count-rest
returns-then-count-rest c = grind (arith, common_steps)
