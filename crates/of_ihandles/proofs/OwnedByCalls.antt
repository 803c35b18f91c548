-- The law `blocks_are_owned`: each call keeps the region's blocks those of the live instances, and these don't meet.
use Rattle.std.proofs.Common.{◌≡◌, ◌≢◌, ℕ, zero, suc, ◌+◌, ◌<◌, ◌≤◌, ◌⊎◌, inl, inr, Bool, true, false, List, [], ◌∷◌}
use Rattle.std.proofs.Common.{◌++◌}
use Rattle.std.proofs.Common.{length, get_or, replicate, Option, Some, None, Result, Ok, Err, refl, sym, subst, ap, ◌∙◌}
use Rattle.std.proofs.Common.{arith}
use Rattle.std.proofs.Common.{nat_le}
use Rattle.std.specs.Prelude.{count_by, set}
use Rattle.std.specs.List.{slice_get}
use Rattle.std.proofs.lemmas.Bool.{cases_eq, cases_lt}
use Rattle.std.proofs.lemmas.Grind.{common_steps}
use Rattle.std.proofs.lemmas.List.{length-replicate}
use Rattle.byteorder.specs.Endian.{big_bytes}
use Rattle.of_cells.specs.declared.cells.Cell.{Cell}
use Rattle.of_memory.specs.Blocks.{AreLaid, is_block, rounded}
use Rattle.of_memory.specs.DataSpace.{DataSpace, IsSound, written}
use Rattle.of_memory.specs.Regions.{instance_limit, instance_start}
use Rattle.of_nodes.specs.declared.phandles.Phandle.{Phandle}
use Rattle.of_nodes.specs.declared.properties.Span.{Span}
use Rattle.of_ihandles.specs.declared.instance_fault.InstanceFault.{InstanceFault}
use Rattle.of_ihandles.specs.declared.instances.Instance.{Instance}
use Rattle.of_ihandles.specs.declared.slots.Template.{Template}
use Rattle.of_ihandles.specs.Blocks.{all_begun, begun, blocks_taken, copy_taken, given, given_all}
use Rattle.of_ihandles.specs.Instances.{release_left, released}
use Rattle.of_ihandles.specs.Instances.{arguments_at, arguments_by, arguments_left, arguments_set, closed, closed_at}
use Rattle.of_ihandles.specs.Instances.{closed_by}
use Rattle.of_ihandles.specs.Instances.{ihandle_of, instance_at, is_open, lengths_of, most_instances, no_instances}
use Rattle.of_ihandles.specs.Instances.{number_of, opened, opened_at, opened_with, slot_block, slot_stored, slotted}
use Rattle.of_ihandles.specs.Instances.{slotted_with, stored_in, unit_of, with_blocks}
use Rattle.of_ihandles.specs.OwnedBlocks.{AreApart, BlocksAreOwned, OwnBlocks, is_held, live_blocks}
use Rattle.of_ihandles.specs.Slots.{size_of, slots_of, with_slot}
use Rattle.of_ihandles.specs.Table.{InstanceTable}
use Rattle.of_ihandles.proofs.BlockCounts.{count-all_begun, count-begun, count-blocks_taken, count-cons}
use Rattle.of_ihandles.proofs.BlockCounts.{count-copy_taken, count-given_all, count-live, count-written}
use Rattle.of_ihandles.proofs.BlockCounts.{in_region, live-push, live-set, live-with_blocks, live_count, live_within}
use Rattle.of_ihandles.proofs.BlockCounts.{none}
use Rattle.of_ihandles.proofs.BlockCounts.{once, one, region_count}
use Rattle.of_ihandles.proofs.RoomLoops.{taken_length}

-- the same by the counts of the proofs
abbrev Owns : InstanceTable → DataSpace → Type 0
Owns t m = (a s : ℕ) → live_count (is_held a s) t.made ≡ region_count m a s

owns : (t : InstanceTable) (m : DataSpace) → OwnBlocks t m → Owns t m
owns t m h a s = sym (count-live (is_held a s) t.made) ∙ h a s ∙ sym (in_region m a s)

own_blocks : (t : InstanceTable) (m : DataSpace) → Owns t m → OwnBlocks t m
own_blocks t m h a s = count-live (is_held a s) t.made ∙ h a s ∙ in_region m a s

-- what an answer leaves
pub left_is : {A : Type 0} (x y : A) (t u : InstanceTable) (m n : DataSpace)
    → ◌≡◌ {A = Result (A × (InstanceTable × DataSpace)) InstanceFault} (Ok (x, (t, m))) (Ok (y, (u, n)))
    → (t ≡ u) × (m ≡ n)
left_is {A = A} x y t u m n e =
    let both : ◌≡◌ {A = A × (InstanceTable × DataSpace)} (x, (t, m)) (y, (u, n)) = cc in (
      ap (λ (p : A × (InstanceTable × DataSpace)). p.1.0) both,
      ap (λ (p : A × (InstanceTable × DataSpace)). p.1.1) both,
    )

-- ---- opening

pub by_open : (t after : InstanceTable) (m left : DataSpace) (ph : Phandle) (parent ih : Cell) (arguments : List ℕ)
    → OwnBlocks t m → opened t m ph parent arguments ≡ Ok (ih, (after, left)) → OwnBlocks after left
by_open t after m left ph parent ih arguments own e = go (nat_le most_instances (length t.made)) refl
  where
    with_list : (bs : List Span) (taken : DataSpace)
        → ((a s : ℕ) → region_count taken a s ≡ count_by (is_held a s) bs + region_count m a s)
        → opened_at t taken ph parent arguments bs ≡ Ok (ih, (after, left)) → OwnBlocks after left
    with_list [] taken f h = absurd cc
    with_list (b ∷ bs) taken f h =
        let same = left_is (ihandle_of (length t.made)) ih
        (record t { made = t.made ++ Some (instance_at ph parent b bs) ∷ [] }) after
        (begun (written taken b.address.0 arguments) bs (slots_of ph t.slots)) left h in
        own_blocks after left (λ a s.
        let push = live-push (is_held a s) t.made (Some (instance_at ph parent b bs)) in
        let start = count-begun (written taken b.address.0 arguments) bs (slots_of ph t.slots) a s in
        let write = count-written taken b.address.0 arguments a s in
        let before = owns t m own a s in
        let all = f a s in
        rw (← same.0, ← same.1) (omega (arith, push, start, write, before, all)))

    taken : (r : Result (List Span × DataSpace) InstanceFault)
        → blocks_taken m (lengths_of (record { 0 = length arguments }) (slots_of ph t.slots)) ≡ r
        → opened_with t ph parent arguments r ≡ Ok (ih, (after, left)) → OwnBlocks after left
    taken (Err fault) f h = absurd cc
    taken (Ok x) f h =
        with_list x.0 x.1 (λ a s. count-blocks_taken m x.1
        (lengths_of (record { 0 = length arguments }) (slots_of ph t.slots)) x.0 a s f) h

    go : (b : Bool) → nat_le most_instances (length t.made) ≡ b → OwnBlocks after left
    go true h = let no = rw h at e in absurd cc
    go false h =
        let e' = rw h at e in
        taken (blocks_taken m (lengths_of (record { 0 = length arguments }) (slots_of ph t.slots))) refl e'

-- ---- closing

by_close : (t after : InstanceTable) (m left : DataSpace) (ih : Cell)
    → OwnBlocks t m → closed t m ih ≡ Ok (tt, (after, left)) → OwnBlocks after left
by_close t after m left ih own e = numbered (number_of (length t.made) ih) e
  where
    at : (k : ℕ) (o : Option Instance) → get_or t.made k None ≡ o → closed_at t m k o ≡ Ok (tt, (after, left))
        → OwnBlocks after left
    at k None f h = absurd cc
    at k (Some i) f h =
        let same = left_is tt tt (record t { made = set t.made k None }) after
        (given_all (given m i.arguments) i.slots) left h in
        own_blocks after left (λ a s.
        let gone = count-given_all m (i.arguments ∷ i.slots) (λ x y. live_count (is_held x y) (set t.made k None))
        (λ x y.
        let fewer = live-set (is_held x y) t.made k None (live_within t.made k i f) in
        let fewer' = rw f at fewer in
        let before = owns t m own x y in
        omega (arith, fewer', before)) a s in
        rw (← same.0, ← same.1) (sym gone))

    numbered : (o : Option ℕ) → closed_by t m o ≡ Ok (tt, (after, left)) → OwnBlocks after left
    numbered None h = absurd cc
    numbered (Some k) h = at k (get_or t.made k None) refl h

by_release : (t after : InstanceTable) (m left : DataSpace) (ih : Cell)
    → OwnBlocks t m → released t m ih ≡ (after, left) → OwnBlocks after left
by_release t after m left ih has e = go (closed t m ih) refl e
  where
    go : (r : Result (Unit {0} × (InstanceTable × DataSpace)) InstanceFault) → closed t m ih ≡ r
        → release_left t m r ≡ (after, left) → OwnBlocks after left
    go (Err fault) f h = subst (λ (p : InstanceTable × DataSpace). OwnBlocks p.0 p.1) h has
    go (Ok x) f h = subst (λ (p : InstanceTable × DataSpace). OwnBlocks p.0 p.1) h (by_close t x.1.0 m x.1.1 ih has f)

-- ---- slots

by_slot : (t after : InstanceTable) (m left : DataSpace) (ph : Phandle) (template : Template) (n : ℕ)
    → OwnBlocks t m → slotted t m ph template ≡ Ok (n, (after, left)) → OwnBlocks after left
by_slot t after m left ph template n own e =
    taken (blocks_taken m (replicate (count_by (is_open ph) t.made) (size_of template))) refl e
  where
    taken : (r : Result (List Span × DataSpace) InstanceFault)
        → blocks_taken m (replicate (count_by (is_open ph) t.made) (size_of template)) ≡ r
        → slotted_with t ph template r ≡ Ok (n, (after, left)) → OwnBlocks after left
    taken (Err fault) f h = absurd cc
    taken (Ok x) f h =
        let ns = replicate (count_by (is_open ph) t.made) (size_of template) in
        let same = left_is (length t.slots) n
        (record { made = with_blocks ph t.made x.0; slots = with_slot t.slots ph template }) after
        (all_begun x.1 x.0 template) left h in
        let len : length x.0 ≡ count_by (is_open ph) t.made =
        taken_length m x.1 ns x.0 f ∙ length-replicate (count_by (is_open ph) t.made) (size_of template) in
        own_blocks after left (λ a s.
        let more = live-with_blocks (is_held a s) ph t.made x.0 len in
        let start = count-all_begun x.1 x.0 template a s in
        let before = owns t m own a s in
        let all = count-blocks_taken m x.1 ns x.0 a s f in
        rw (← same.0, ← same.1) (omega (arith, more, start, before, all)))

by_store : (t : InstanceTable) (m left : DataSpace) (ih : Cell) (n : ℕ) (x : Cell)
    → OwnBlocks t m → slot_stored m t ih n x ≡ Ok (tt, left) → OwnBlocks t left
by_store t m left ih n x own e = go (slot_block t ih n) e
  where
    go : (r : Result Span InstanceFault) → stored_in m x r ≡ Ok (tt, left) → OwnBlocks t left
    go (Err fault) h = absurd cc
    go (Ok b) h =
        let both : ◌≡◌ {A = Unit {0} × DataSpace} (tt, written m b.address.0 (big_bytes 4 x.0)) (tt, left) = cc in
        let same : written m b.address.0 (big_bytes 4 x.0) ≡ left = ap (λ (p : Unit {0} × DataSpace). p.1) both in
        rw (← same) own

-- ---- other arguments

by_arguments : (t after : InstanceTable) (m left : DataSpace) (ih : Cell) (arguments : List ℕ) (unit : List Cell)
    → OwnBlocks t m → arguments_set t m ih arguments unit ≡ Ok (tt, (after, left)) → OwnBlocks after left
by_arguments t after m left ih arguments unit own e = numbered (number_of (length t.made) ih) e
  where
    copied : (k : ℕ) (i : Instance) → get_or t.made k None ≡ Some i
        → (r : Result (Span × DataSpace) InstanceFault) → copy_taken m arguments ≡ r
        → arguments_left t k i unit r ≡ Ok (tt, (after, left)) → OwnBlocks after left
    copied k i f (Err fault) g h = absurd cc
    copied k i f (Ok x) g h =
        let other : Instance = record i { arguments = x.0; unit = unit_of unit } in
        let same = left_is tt tt (record t { made = set t.made k (Some other) }) after
        (given x.1 i.arguments) left h in
        -- the count before the old block is given back
        let between : (a s : ℕ) → region_count x.1 a s
        ≡ once (is_held a s i.arguments) + live_count (is_held a s) (set t.made k (Some other)) = λ a s.
        let swap = live-set (is_held a s) t.made k (Some other) (live_within t.made k i f) in
        let swap' = rw f at swap in
        let old = count-cons (is_held a s) i.arguments i.slots in
        let new = count-cons (is_held a s) x.0 i.slots in
        let took = count-copy_taken m x.1 arguments x.0 a s g in
        let before = owns t m own a s in
        omega (arith, swap', old, new, took, before) in
        own_blocks after left (λ a s.
        let gone = count-given_all x.1 (i.arguments ∷ []) (λ y z. live_count (is_held y z) (set t.made k (Some other)))
        (λ y z.
        let one_block = count-cons (is_held y z) i.arguments [] in
        omega (arith, between y z, one_block)) a s in
        rw (← same.0, ← same.1) (sym gone))

    at : (k : ℕ) (o : Option Instance) → get_or t.made k None ≡ o
        → arguments_at t m arguments unit k o ≡ Ok (tt, (after, left)) → OwnBlocks after left
    at k None f h = absurd cc
    at k (Some i) f h = copied k i f (copy_taken m arguments) refl h

    numbered : (o : Option ℕ) → arguments_by t m arguments unit o ≡ Ok (tt, (after, left)) → OwnBlocks after left
    numbered None h = absurd cc
    numbered (Some k) h = at k (get_or t.made k None) refl h

-- ---- no two meet

-- an element that is there is counted, and two are counted twice
pub counted_once : {X : Type 0} (p : X → Bool) (xs : List X) (i : ℕ) (x : X) → slice_get xs i ≡ Some x → p x ≡ true
    → 1 ≤ count_by p xs
counted_once p [] i x e h = absurd cc
counted_once p (y ∷ ys) zero x e h =
    let same : y ≡ x = cc in
    let cons = count-cons p y ys in
    let yes : once (p y) ≡ 1 = rw (same, h) one in
    omega (arith, cons, yes)
counted_once p (y ∷ ys) (suc i) x e h =
    let rest = counted_once p ys i x e h in
    let cons = count-cons p y ys in
    omega (arith, cons, rest)

counted_twice : {X : Type 0} (p : X → Bool) (xs : List X) (i j : ℕ) (x y : X) → i < j
    → slice_get xs i ≡ Some x → slice_get xs j ≡ Some y → p x ≡ true → p y ≡ true → 2 ≤ count_by p xs
counted_twice p [] i j x y l e f g h = absurd cc
counted_twice p (z ∷ zs) i zero x y l e f g h = absurd (omega arith)
counted_twice p (z ∷ zs) zero (suc j) x y l e f g h =
    let same : z ≡ x = cc in
    let rest = counted_once p zs j y f h in
    let cons = count-cons p z zs in
    let yes : once (p z) ≡ 1 = rw (same, g) one in
    omega (arith, cons, yes, rest)
counted_twice p (z ∷ zs) (suc i) (suc j) x y l e f g h =
    let rest = counted_twice p zs i j x y (omega arith) e f g h in
    let cons = count-cons p z zs in
    omega (arith, cons, rest)

-- it is the block at the address with the size, or not
record IsBlockAt (a s at size : ℕ) : Type 0 where
  address : at ≡ a
  length : size ≡ s

is_it : (a s : ℕ) (b : _) → is_block a s b ≡ true → IsBlockAt a s b.at b.size
is_it a s b h = record { address = grind (arith, common_steps); length = grind (arith, common_steps) }

pub laid_from : (low high a s : ℕ) (bs : _) → AreLaid low high bs → 1 ≤ count_by (is_block a s) bs → low ≤ a
laid_from low high a s [] h some = absurd (omega arith)
laid_from low high a s (b ∷ bs) h some = go (is_block a s b) refl (laid_from (b.at + b.size) high a s bs h.1)
  where
    go : (t : Bool) → is_block a s b ≡ t → (1 ≤ count_by (is_block a s) bs → b.at + b.size ≤ a) → low ≤ a
    go true e rest = let i : IsBlockAt a s b.at b.size = is_it a s b e in omega (arith, i.address, h.0.above)
    go false e rest =
        let cons = count-cons (is_block a s) b bs in
        let no : once (is_block a s b) ≡ 0 = rw e none in
        let r = rest (omega (arith, cons, no)) in
        omega (arith, r, h.0.above)

laid_once : (low high a s : ℕ) (bs : _) → AreLaid low high bs → count_by (is_block a s) bs ≤ 1
laid_once low high a s [] h = omega arith
laid_once low high a s (b ∷ bs) h =
    go (is_block a s b) refl (laid_once (b.at + b.size) high a s bs h.1) (laid_from (b.at + b.size) high a s bs h.1)
  where
    go : (t : Bool) → is_block a s b ≡ t → count_by (is_block a s) bs ≤ 1
        → (1 ≤ count_by (is_block a s) bs → b.at + b.size ≤ a) → count_by (is_block a s) (b ∷ bs) ≤ 1
    go true e few rest =
        let i : IsBlockAt a s b.at b.size = is_it a s b e in
        let cons = count-cons (is_block a s) b bs in
        let yes : once (is_block a s b) ≡ 1 = rw e one in
        elim (cases_eq (count_by (is_block a s) bs) 0) [
          | inl z ↦ omega (arith, cons, yes, z)
          | inr more ↦
              let r = rest (omega (arith, more)) in
              absurd (omega (arith, r, i.address, h.0.some))
        ]
    go false e few rest =
        let cons = count-cons (is_block a s) b bs in
        let no : once (is_block a s b) ≡ 0 = rw e none in
        omega (arith, cons, no, few)

laid_apart : (low high a s x y : ℕ) (bs : _) → AreLaid low high bs → 1 ≤ count_by (is_block a s) bs
    → 1 ≤ count_by (is_block x y) bs → (a ≡ x → s ≡ y → ⊥) → (a + s ≤ x) ⊎ (x + y ≤ a)
laid_apart low high a s x y [] h first second other = absurd (omega arith)
laid_apart low high a s x y (b ∷ bs) h first second other =
    go (is_block a s b) (is_block x y b) refl refl (laid_apart (b.at + b.size) high a s x y bs h.1)
  where
    go : (t u : Bool) → is_block a s b ≡ t → is_block x y b ≡ u
        → (1 ≤ count_by (is_block a s) bs → 1 ≤ count_by (is_block x y) bs → (a ≡ x → s ≡ y → ⊥)
        → (a + s ≤ x) ⊎ (x + y ≤ a)) → (a + s ≤ x) ⊎ (x + y ≤ a)
    go true true e f rest =
        let i : IsBlockAt a s b.at b.size = is_it a s b e in
        let j : IsBlockAt x y b.at b.size = is_it x y b f in
        absurd (other (sym i.address ∙ j.address) (sym i.length ∙ j.length))
    go true false e f rest =
        let i : IsBlockAt a s b.at b.size = is_it a s b e in
        let cons = count-cons (is_block x y) b bs in
        let no : once (is_block x y b) ≡ 0 = rw f none in
        let r = laid_from (b.at + b.size) high x y bs h.1 (omega (arith, cons, no)) in
        inl (omega (arith, i.address, i.length, r))
    go false true e f rest =
        let j : IsBlockAt x y b.at b.size = is_it x y b f in
        let cons = count-cons (is_block a s) b bs in
        let no : once (is_block a s b) ≡ 0 = rw e none in
        let r = laid_from (b.at + b.size) high a s bs h.1 (omega (arith, cons, no)) in
        inr (omega (arith, j.address, j.length, r))
    go false false e f rest =
        let cons = count-cons (is_block a s) b bs in
        let no : once (is_block a s b) ≡ 0 = rw e none in
        let cons' = count-cons (is_block x y) b bs in
        let no' : once (is_block x y b) ≡ 0 = rw f none in
        rest (omega (arith, cons, no)) (omega (arith, cons', no')) other

pub held_itself : (b : Span) → is_held b.address.0 (rounded b.length.0) b ≡ true
held_itself b = grind (arith, common_steps)

-- two places of the list
pub apart : (t : InstanceTable) (m : DataSpace) (i j : ℕ) (b c : Span) → IsSound m → OwnBlocks t m → i ≢ j
    → slice_get (live_blocks t.made) i ≡ Some b → slice_get (live_blocks t.made) j ≡ Some c → AreApart b c
apart t m i j b c sound own other e f =
    laid_apart instance_start instance_limit b.address.0 (rounded b.length.0) c.address.0 (rounded c.length.0)
    m.instances sound.instances here there different
  where
    here : 1 ≤ count_by (is_block b.address.0 (rounded b.length.0)) m.instances
    here =
        let n = counted_once (is_held b.address.0 (rounded b.length.0)) (live_blocks t.made) i b e (held_itself b) in
        omega (arith, n, own b.address.0 (rounded b.length.0))

    there : 1 ≤ count_by (is_block c.address.0 (rounded c.length.0)) m.instances
    there =
        let n = counted_once (is_held c.address.0 (rounded c.length.0)) (live_blocks t.made) j c f (held_itself c) in
        omega (arith, n, own c.address.0 (rounded c.length.0))

    few : count_by (is_held b.address.0 (rounded b.length.0)) (live_blocks t.made) ≤ 1
    few =
        let n = laid_once instance_start instance_limit b.address.0 (rounded b.length.0) m.instances sound.instances in
        omega (arith, n, own b.address.0 (rounded b.length.0))

    different : b.address.0 ≡ c.address.0 → rounded b.length.0 ≡ rounded c.length.0 → ⊥
    different g h =
        let both : is_held b.address.0 (rounded b.length.0) c ≡ true = rw (g, h) (held_itself c) in
        elim (cases_lt i j) [
          | inl l ↦
              let n = counted_twice (is_held b.address.0 (rounded b.length.0)) (live_blocks t.made) i j b c l e f
              (held_itself b) both in
              omega (arith, n, few)
          | inr l ↦
              let n = counted_twice (is_held b.address.0 (rounded b.length.0)) (live_blocks t.made) j i c b
              (omega (arith, l, other)) f e both (held_itself b) in
              omega (arith, n, few)
        ]

at_first : (m : DataSpace) → m.instances ≡ [] → OwnBlocks no_instances m
at_first m e a s = rw e refl

pub blocks_are_owned : BlocksAreOwned
blocks_are_owned = record {
  at_first = at_first;
  by_open = by_open;
  by_close = by_close;
  by_release = by_release;
  by_slot = by_slot;
  by_store = by_store;
  by_arguments = by_arguments;
  apart = apart;
}
