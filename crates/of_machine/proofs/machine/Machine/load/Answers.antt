-- The goals at which wrong bodies are refused.
use Rattle.std.proofs.Common.{rules}
use Rattle.of_machine.proofs.machine.Machine.load.Goals as goal

pub returns-in_err-check_image-clause-err : goal.returns-in_err-check_image-clause-err
returns-in_err-check_image-clause-err g c = search rules

pub returns-in_default-clause-err : goal.returns-in_default-clause-err
returns-in_default-clause-err g c = search rules

pub begin-requires : goal.begin-requires
begin-requires g c = search rules

pub returns-clause-accepted : goal.returns-clause-accepted
returns-clause-accepted g c = search rules

pub returns-clause-ok : goal.returns-clause-ok
returns-clause-ok g c = search rules

pub returns-clause-event : goal.returns-clause-event
returns-clause-event g c = search rules

pub returns-clause-err : goal.returns-clause-err
returns-clause-err g c = search rules
