use Rattle.std.proofs.Common.{rules}
use Rattle.of_stacks.proofs.throws.counted.Goals as goal

pub returns-in-Some-Some : goal.returns-in-Some-Some
returns-in-Some-Some c = search rules
