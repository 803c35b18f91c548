use Rattle.std.proofs.Common.{arith}
use Rattle.of_calls.specs.Scripts.{script_in}
use Rattle.of_calls.proofs.Reading.{all_read, given_up, went_on}
use Rattle.of_calls.proofs.script.parse_script.Goals as goal

pub returns-in-Err-clause-err : goal.returns-in-Err-clause-err
returns-in-Err-clause-err c =
    given_up script_in _ c.loop-left.number _ _ _ _ c.loop-left-test.true c.loop-left.invariant.all
    c.first_line.ensures c.in-Err.ensures.err

pub loop-left-preserved : goal.loop-left-preserved
loop-left-preserved c = record {
  all =
      went_on script_in _ _ c.loop-left.number _ _ _ _ c.loop-left-test.true c.loop-left.invariant.all
      c.first_line.ensures c.in-Ok.ensures.ok c.left_behind-left.ensures.left;
  few = omega (arith, c.left_behind-left.ensures.few, c.loop-left.invariant.few);
}

pub returns-clause-ok : goal.returns-clause-ok
returns-clause-ok c =
    all_read script_in _ c.loop-left.number _ _ c.loop-left-test.false c.loop-left.invariant.all
