-- The goals at which wrong bodies are refused.
use Rattle.std.proofs.Common.{arith}
use Rattle.std.proofs.lemmas.Grind.{common_steps}
use Rattle.of_format.specs.Reading.{number_read}
use Rattle.of_format.proofs.reading.read_number.Goals as goal

pub returns-in-45 : goal.returns-in-45
unfolding number_read
returns-in-45 c = grind (arith, common_steps)
