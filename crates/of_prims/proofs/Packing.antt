-- A text stored with its length before it.
use Rattle.std.proofs.Common.{◌≡◌, ℕ, ◌+◌, ◌%◌, ◌^◌, ◌≤◌, [], ◌∷◌, length, drop, None, Result, Ok, Err, add-zero, refl}
use Rattle.std.proofs.Common.{sym, ap, ◌∙◌, arith}
use Rattle.std.proofs.lemmas.List.{length-take}
use Rattle.of_memory.specs.Regions.{place_of}
use Rattle.of_memory.specs.DataSpace.{DataSpace, IsSound, bytes_from, written}
use Rattle.of_memory.specs.Access.{read_fault, write_fault, bytes_written, copied}
use Rattle.of_cells.specs.Outcomes.{Becomes}
use Rattle.of_memory.specs.RangeLaws.{PartsAreGood, RangesArePlaced, FaultsStay, WritesJoin}
use Rattle.of_memory.specs.declared.fault.MemFault.{MemFault}
use Rattle.of_memory.specs.declared.width.Width.TheVariants.{One}

not_both : (m : DataSpace) (f : MemFault) → ◌≡◌ {A = Result DataSpace MemFault} (Err f) (Ok m) → ⊥
not_both m f e = cc

-- a store that can be made is made
made : (m new old : DataSpace) (r : Result (Unit {0}) MemFault) (after : Result DataSpace MemFault) →
    after ≡ Ok m → Becomes after old new r → new ≡ m
made m new old (Ok x) after e h = let same : ◌≡◌ {A = Result DataSpace MemFault} (Ok new) (Ok m) = sym h ∙ e in cc
made m new old (Err f) after e h =
    let same : ◌≡◌ {A = Result DataSpace MemFault} (Err f) (Ok m) = sym h.0 ∙ e in
    absurd (not_both m f same)

-- the copy, and then the length before it
pub packed : (parts : PartsAreGood) (places : RangesArePlaced) (stay : FaultsStay) (joins : WritesJoin)
    (m m1 m2 : DataSpace) (from n a to : ℕ) (r1 r2 : Result (Unit {0}) MemFault) → IsSound m →
    read_fault m from n One ≡ None → write_fault m a (n + 1) One ≡ None → n ≤ 255 → to ≡ (a + 1) % 2 ^ 32 →
    Becomes (copied m from to n) m m1 r1 → Becomes (bytes_written m1 a (n ∷ [])) m1 m2 r2 →
    m2 ≡ written m a (n ∷ bytes_from m from n)
packed parts places stay joins m m1 m2 from n a to r1 r2 sound can may short to_is first second =
    let ys = bytes_from m from n in
    let reads : read_fault m a (n + 1) One ≡ None = parts.reads m a (n + 1) One may in
    let ends : a + (n + 1) ≤ 0x64_0000 = places.ends m a (n + 1) One reads (omega arith) in
    let same : to ≡ a + 1 = omega arith in
    let few : length ys ≤ n = omega (arith, length-take n (drop (place_of from) m.bytes)) in
    let copies : copied m from to n ≡ Ok (written m (a + 1) ys) = rw (same, can, parts.behind_writes m a n may) refl in
    let e1 : m1 ≡ written m (a + 1) ys = made (written m (a + 1) ys) m1 m r1 (copied m from to n) copies first in
    let writes : bytes_written m1 a (n ∷ []) ≡ Ok (written m1 a (n ∷ [])) =
    rw (e1, stay.writes m (a + 1) a 1 ys One, parts.byte_writes m a n may) refl in
    let e2 : m2 ≡ written m1 a (n ∷ []) =
    made (written m1 a (n ∷ [])) m2 m1 r2 (bytes_written m1 a (n ∷ [])) writes second in
    let part : read_fault m (a + 0) (1 + length ys) One ≡ None =
    parts.part_reads m a (n + 1) 0 (1 + length ys) One One reads (omega arith) (omega arith) in
    let whole : read_fault m a (1 + length ys) One ≡ None = rw (add-zero a) at part in
    e2 ∙ ap (λ (x : DataSpace). written x a (n ∷ [])) e1 ∙ joins.before m a (n ∷ []) ys sound whole
