use Rattle.std.proofs.Common.{◌≡◌, ◌≤◌, length, arith, ap}
use Rattle.std.proofs.lemmas.List.{length-reverse}
use Rattle.of_stacks.proofs.Reversed.{reverse_take}
use Rattle.of_stacks.proofs.data_stack.DataStack.drop_top.Goals as goal

pub returns-clause-cells : goal.returns-clause-cells
returns-clause-cells c =
    let end : c.loop-dropped._dropped ≡ c.args.count = omega arith in
    let there : c.args.count ≤ length c.self.inside.cells.items =
    omega (arith, ap length c.self.view_is, length-reverse c.self.inside.cells.items) in
    rw (c.loop-dropped.invariant.cells, end, ← c.self.view_is)
    (reverse_take c.self.inside.cells.items c.args.count there)
