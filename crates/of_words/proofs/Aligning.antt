-- Aligning: `here` moves to the next multiple of 4 by less than 4, and stays in the data region or at its end.
use Rattle.std.proofs.Common.{◌≡◌, ℕ, ◌+◌, ◌-◌, ◌%◌, ◌^◌, ◌<◌, ◌≤◌, Result, Ok, Err}
use Rattle.std.proofs.Common.{refl, sym, ap, ◌∙◌, arith}
use Rattle.std.proofs.lemmas.Bool.{le-leb, lt-ltb}
use Rattle.of_cells.specs.Outcomes.{Becomes}
use Rattle.of_memory.specs.DataSpace.{DataSpace, IsSound}
use Rattle.of_memory.specs.Growth.{aligned, allotted, moved, with_here}
use Rattle.of_memory.specs.Regions.{data_limit, data_start}
use Rattle.of_memory.specs.declared.fault.MemFault.{MemFault}
use Rattle.of_words.specs.ConsoleWords.{here_at}

pub aligned_here : (a : ℕ) → a + (4 - a % 4) % 4 ≡ aligned a
aligned_here a = omega arith

moved_up : (a n : ℕ) → n < 2 ^ 31 → moved a n ≡ a + n
moved_up a n l = rw (lt-ltb n (2 ^ 31) l) refl

pub placed : (m : DataSpace) (a : ℕ) → data_start ≤ a → a ≤ data_limit → with_here m a ≡ Ok (here_at a m)
placed m a from to = rw (le-leb data_start a from, le-leb a data_limit to) refl

-- the move that `align` makes
pub allotted_aligned : (m : DataSpace) → IsSound m
    → allotted m ((4 - m.here % 4) % 4) ≡ Ok (here_at (aligned m.here) m)
allotted_aligned m sound =
    let n = (4 - m.here % 4) % 4 in
    let small : n < 2 ^ 31 = omega arith in
    let at : moved m.here n ≡ aligned m.here = moved_up m.here n small ∙ aligned_here m.here in
    let from : data_start ≤ aligned m.here = omega (arith, sound.here_from) in
    let to : aligned m.here ≤ data_limit = omega (arith, sound.here_to) in
    ap (with_here m) at ∙ placed m (aligned m.here) from to

not_both : (m : DataSpace) (f : MemFault) → ◌≡◌ {A = Result DataSpace MemFault} (Err f) (Ok m) → ⊥
not_both m f e = cc

-- a move that can be made is made
made : (m new old : DataSpace) (r : Result (Unit {0}) MemFault) (after : Result DataSpace MemFault) →
    after ≡ Ok m → Becomes after old new r → new ≡ m
made m new old (Ok x) after e h = let same : ◌≡◌ {A = Result DataSpace MemFault} (Ok new) (Ok m) = sym h ∙ e in cc
made m new old (Err f) after e h =
    let same : ◌≡◌ {A = Result DataSpace MemFault} (Err f) (Ok m) = sym h.0 ∙ e in
    absurd (not_both m f same)

pub aligns : (m new : DataSpace) (n : ℕ) (r : Result (Unit {0}) MemFault) → Becomes (allotted m n) m new r → IsSound m
    → n ≡ (4 - m.here % 4) % 4 → new ≡ here_at (aligned m.here) m
aligns m new n r h sound e = made _ new m r (allotted m n) (ap (allotted m) e ∙ allotted_aligned m sound) h
