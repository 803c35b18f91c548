use Rattle.std.proofs.Common.{◌<◌, length, arith, ap}
use Rattle.std.proofs.lemmas.List.{length-reverse}
use Rattle.of_stacks.proofs.Reversed.{reverse_remove}
use Rattle.of_stacks.proofs.data_stack.DataStack.take_out.Goals as goal

pub returns-clause-rest : goal.returns-clause-rest
returns-clause-rest c =
    let there : c.args.count < length c.self.inside.cells.items =
    omega (arith, c.requires, ap length c.self.view_is, length-reverse c.self.inside.cells.items) in
    rw (c.remove.ensures.items, c.len-depth.ensures.value, ← c.self.view_is)
    (reverse_remove c.self.inside.cells.items c.args.count there)
