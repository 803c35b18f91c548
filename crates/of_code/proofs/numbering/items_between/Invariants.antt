use Rattle.std.proofs.Common.{◌≡◌, ◌+◌, ◌≤◌}
use Rattle.of_code.specs.Numbering.{items_between}
use Rattle.of_code.proofs.numbering.items_between.Given as goal

abbrev pub invariant-loop-cell : goal.invariant-loop-cell
invariant-loop-cell g l = record {
  counted :
      let cells = (g.C.CodeStore.code l.fn.code).cells in
      l.count + items_between l.cell l.to cells ≡ items_between l.from l.to cells;
  within : l.count ≤ l.cell;
}
