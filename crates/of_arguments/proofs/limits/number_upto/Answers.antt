use Rattle.of_arguments.proofs.StepLimits.{large_read, none_read, small_read}
use Rattle.of_arguments.proofs.limits.number_upto.Goals as goal

pub returns-then-number-most : goal.returns-then-number-most
returns-then-number-most c =
    small_read c.args.most c.in-Ok.number c.args.text.now c.in-Ok.ensures.value.0 c.if-number-most.true

pub returns-else-number-most : goal.returns-else-number-most
returns-else-number-most c =
    large_read c.args.most c.in-Ok.number c.args.text.now c.in-Ok.ensures.value.0 c.if-number-most.false

pub returns-in-Err : goal.returns-in-Err
returns-in-Err c = none_read c.args.most c.args.text.now c.in-Err.ensures.value.0
