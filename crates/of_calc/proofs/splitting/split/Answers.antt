use Rattle.std.proofs.Common.{rules}
use Rattle.of_calc.specs.Splitting.{splitting_entry}
use Rattle.of_calc.proofs.splitting.split.Goals as goal

pub returns-in_ok-room_for-in-Lwsplit : goal.returns-in_ok-room_for-in-Lwsplit
unfolding splitting_entry
returns-in_ok-room_for-in-Lwsplit c = search rules
