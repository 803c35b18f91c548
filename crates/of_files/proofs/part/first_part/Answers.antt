use Rattle.std.proofs.Common.{rules, ◌<◌, length}
use Rattle.of_files.proofs.Reading.{stray_first}
use Rattle.of_files.proofs.part.first_part.Goals as goal

pub returns-in-Err-take_digits-clause-err : goal.returns-in-Err-take_digits-clause-err
returns-in-Err-take_digits-clause-err c =
    let some : 0 < length c.args.bytes.now = search rules in
    stray_first c.args.bytes.now c.in-Err-take_digits.fault some (search rules) (search rules)
