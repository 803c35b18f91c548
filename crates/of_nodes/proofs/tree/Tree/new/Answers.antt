-- The goals at which wrong bodies are refused.
use Rattle.std.proofs.Common.{◌≤◌, arith}
use Rattle.of_memory.specs.Growth.{property_room}
use Rattle.of_nodes.proofs.FirstTree.{names_fit}
use Rattle.of_nodes.proofs.tree.Tree.new.Goals as goal

pub returns-in_err-push_first-clause-unchanged : goal.returns-in_err-push_first-clause-unchanged
returns-in_err-push_first-clause-unchanged c =
    let m = c.args.memory.now in
    let room : 37 ≤ property_room m = omega (arith, c.property_room.ensures) in
    absurd (names_fit m c.in_err-push_first.field-0.0 room c.in_err-push_first.ensures.refused)
