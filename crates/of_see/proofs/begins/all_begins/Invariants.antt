use Rattle.std.proofs.Common.{◌≡◌, ◌+◌, ℕ, drop, length}
use Rattle.std.specs.Prelude.{slice_index}
use Rattle.of_see.proofs.BeginCounts.{going_back}
use Rattle.of_see.proofs.begins.all_begins.Given as goal

-- what is counted, and what goes back from the cells that are left
abbrev pub invariant-loop-index : goal.invariant-loop-index
invariant-loop-index l = record {
  size : length l.counts.items ≡ length l.cells;
  told :
      (q : ℕ) →
      slice_index l.counts.items q + going_back l.first q l.index (drop l.index l.cells)
      ≡ going_back l.first q 0 l.cells;
}
