use Rattle.std.proofs.Common.{rules}
use Rattle.of_detok.proofs.labels.target_shown.Goals as goal

pub returns-in-Some : goal.returns-in-Some
returns-in-Some c = search rules
