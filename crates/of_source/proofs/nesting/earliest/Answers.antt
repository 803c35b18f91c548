use Rattle.std.proofs.Common.{◌≤◌, length, arith}
use Rattle.of_source.proofs.Ends.{earliest_first, earliest_later}
use Rattle.of_source.proofs.nesting.earliest.Goals as goal

pub returns-then-first-eq0 : goal.returns-then-first-eq0
returns-then-first-eq0 c = let some : 1 ≤ length c.args.levels.now =
    omega arith in earliest_first _ _ _ some c.if-first-eq0.true

pub returns-else-first-eq0 : goal.returns-else-first-eq0
returns-else-first-eq0 c = let some : 1 ≤ length c.args.levels.now =
    omega arith in earliest_later _ _ _ some c.if-first-eq0.false
