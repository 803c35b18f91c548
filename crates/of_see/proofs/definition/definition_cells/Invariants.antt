use Rattle.std.proofs.Common.{◌≡◌, ◌+◌, ◌≤◌, ◌++◌, drop, length}
use Rattle.of_see.specs.SeeItems.{cells_to_return}
use Rattle.of_see.proofs.definition.definition_cells.Given as goal

-- the cells so far, and those up to the return
abbrev pub invariant-loop-cell : goal.invariant-loop-cell
invariant-loop-cell g l = record {
  taken :
      let code = (g.C.CodeStore.code l.fn.code).cells in
      l.cells.items ++ cells_to_return (drop l.cell code) ≡ cells_to_return (drop l.fn.start code);
  within : length l.cells.items + l.fn.start ≤ l.cell;
}
