use Rattle.std.proofs.Common.{rules}
use Rattle.of_machine.proofs.machine.Machine.answer.Goals as goal

pub returns-then-is_err-clause-err : goal.returns-then-is_err-clause-err
returns-then-is_err-clause-err c = search rules
