use Rattle.std.proofs.Common.{rules}
use Rattle.of_files.proofs.Said.{line_said}
use Rattle.of_files.proofs.output.say.Goals as goal

pub returns-in-Some : goal.returns-in-Some
returns-in-Some g c =
    line_said c.args.fault c.in-Some.byte _ _ _ _ (search rules) c.bad_start_text.ensures c.say.ensures
