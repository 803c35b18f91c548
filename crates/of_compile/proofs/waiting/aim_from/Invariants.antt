use Rattle.std.proofs.Common.{◌-◌, ◌≡◌, ◌≤◌, ◌⊎◌, length}
use Rattle.of_compile.specs.Coding.{aimed_from, place_of}
use Rattle.of_compile.proofs.waiting.aim_from.Given as goal

abbrev pub invariant-loop-cell : goal.invariant-loop-cell
invariant-loop-cell g l = record {
  code : g.C.CodeStore.code l.code ≡ aimed_from l.waiting (place_of l.cell) l.to (g.C.CodeStore.code l.fn.code);
  spare : g.C.CodeStore.spare l.code ≡ g.C.CodeStore.spare l.fn.code;
  within : l.cell ≤ length (g.C.CodeStore.code l.fn.code).cells;
  reached : (l.from.cell ≤ l.cell) ⊎ (l.cell ≡ length (g.C.CodeStore.code l.fn.code).cells);
}

abbrev pub decreases-loop-cell : goal.decreases-loop-cell
decreases-loop-cell g l = l.cell - l.from.cell
