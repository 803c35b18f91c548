use Rattle.std.proofs.Common.{◌≡◌, ◌+◌, ◌≤◌, drop}
use Rattle.of_code.specs.Numbering.{items_to_return}
use Rattle.of_code.proofs.numbering.items_to_return.Given as goal

abbrev pub invariant-loop-cell : goal.invariant-loop-cell
invariant-loop-cell g l = record {
  counted :
      let cells = (g.C.CodeStore.code l.fn.code).cells in
      l.count + items_to_return (drop l.cell cells) ≡ items_to_return (drop l.fn.from.cell cells);
  within : l.count ≤ l.cell;
}
