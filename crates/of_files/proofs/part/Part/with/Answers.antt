use Rattle.of_files.proofs.Reading.{stray_next}
use Rattle.of_files.proofs.part.Part.with.Goals as goal

pub returns-in-Err-take_digits-clause-err : goal.returns-in-Err-take_digits-clause-err
returns-in-Err-take_digits-clause-err c =
    rw c.in-Digits.is (
    stray_next c.in-Digits.place c.in-Digits.digits.items c.args.bytes.now c.in-Err-take_digits.fault
    c.in-Err-take_digits.ensures.err)
