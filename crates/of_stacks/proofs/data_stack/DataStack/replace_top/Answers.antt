use Rattle.std.proofs.Common.{◌<◌, length, arith, ap}
use Rattle.std.proofs.lemmas.List.{length-reverse}
use Rattle.of_stacks.proofs.Reversed.{reverse_refill}
use Rattle.of_stacks.proofs.data_stack.DataStack.replace_top.Goals as goal

pub returns : goal.returns
returns c =
    let there : 0 < length c.self.inside.cells.items =
    omega (arith, ap length c.self.view_is, length-reverse c.self.inside.cells.items) in
    rw (← c.self.view_is)
    (reverse_refill c.self.inside.cells.items c.deref_mut.result.now c.len-last.result c.args.x
    c.deref_mut.ensures.value c.len-last.ensures.value there)
