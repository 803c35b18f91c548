-- Each call keeps a block for each slot in each live instance of its package.
use Rattle.std.proofs.Common.{◌≡◌, ℕ, zero, suc, ◌<◌, ◌⊎◌, inl, inr, Bool, true, false, List, [], ◌∷◌, ◌++◌, length}
use Rattle.std.proofs.Common.{get_or, map, take, replicate, Option, Some, None, Result, Ok, Err, refl, sym, subst}
use Rattle.std.proofs.Common.{ap, ◌∙◌}
use Rattle.std.proofs.Common.{arith}
use Rattle.std.proofs.Common.{nat_le, append-nil}
use Rattle.std.specs.Prelude.{count_by, set}
use Rattle.std.specs.List.{slice_get}
use Rattle.std.proofs.lemmas.Grind.{common_steps}
use Rattle.std.proofs.lemmas.List.{take-append-le}
use Rattle.std.proofs.lemmas.List.Elements.{filter-append}
use Rattle.of_cells.specs.declared.cells.Cell.{Cell}
use Rattle.of_memory.specs.BlockCalls.{instances_taken}
use Rattle.of_memory.specs.DataSpace.{DataSpace, written}
use Rattle.of_memory.specs.declared.fault.MemFault.{MemFault}
use Rattle.of_nodes.specs.declared.phandles.Phandle.{Phandle}
use Rattle.of_nodes.specs.declared.properties.Span.{Span}
use Rattle.of_ihandles.specs.declared.instance_fault.InstanceFault.{InstanceFault}
use Rattle.of_ihandles.specs.declared.instances.Instance.{Instance}
use Rattle.of_ihandles.specs.declared.slots.Slot.{Slot}
use Rattle.of_ihandles.specs.declared.slots.Template.{Template}
use Rattle.of_ihandles.specs.Blocks.{all_begun, all_left, begun, blocks_taken, copy_taken, given, given_all, spans}
use Rattle.of_ihandles.specs.Instances.{release_left, released}
use Rattle.of_ihandles.specs.Instances.{arguments_at, arguments_by, arguments_left, arguments_set, closed, closed_at}
use Rattle.of_ihandles.specs.Instances.{closed_by}
use Rattle.of_ihandles.specs.Instances.{ihandle_of, instance_at, is_open, lengths_of, most_instances, no_instances}
use Rattle.of_ihandles.specs.Instances.{number_of, opened, opened_at, opened_with, slotted, slotted_with, unit_of}
use Rattle.of_ihandles.specs.Instances.{with_block, with_blocks}
use Rattle.of_ihandles.specs.OwnSlots.{AreNumbered, HasSlots, HaveBlocks}
use Rattle.of_ihandles.specs.Slots.{is_same, size_of, slots_of, with_slot}
use Rattle.of_ihandles.specs.Table.{InstanceTable}
use Rattle.of_ihandles.proofs.OwnedByCalls.{left_is}
use Rattle.of_ihandles.proofs.RoomLoops.{addresses_length, counted, not_counted, with_blocks_none}

abbrev Entries : Type 0
Entries = List (Option Instance)

abbrev pub lengths : List Span → List Cell
lengths bs = map (λ (b : Span). b.length) bs

abbrev pub sizes : List Slot → List Cell
sizes ss = map (λ (s : Slot). size_of s.template) ss

-- ---- lists of entries

-- the last of a list, or one before it
pub pushed : {X : Type 0} (xs : List (Option X)) (y : Option X) (k : ℕ) (x : X) → get_or (xs ++ y ∷ []) k None ≡ Some x
    → (get_or xs k None ≡ Some x) ⊎ (y ≡ Some x)
pushed [] y zero x e = inr e
pushed [] y (suc k) x e = absurd cc
pushed (z ∷ xs) y zero x e = inl e
pushed (z ∷ xs) y (suc k) x e = pushed xs y k x e

-- the one that was put there, or another
pub put : {X : Type 0} (xs : List (Option X)) (j : ℕ) (y : Option X) (k : ℕ) (x : X)
    → get_or (set xs j y) k None ≡ Some x
    → (get_or xs k None ≡ Some x) ⊎ (y ≡ Some x)
put [] zero y k x e = inl e
put [] (suc j) y k x e = inl e
put (z ∷ xs) zero y zero x e = inr e
put (z ∷ xs) zero y (suc k) x e = inl e
put (z ∷ xs) (suc j) y zero x e = inl e
put (z ∷ xs) (suc j) y (suc k) x e = put xs j y k x e

-- ---- lengths of blocks

spans_lengths : (as' ns : List Cell) → length as' ≡ length ns → lengths (spans as' ns) ≡ ns
spans_lengths [] [] l = refl
spans_lengths [] (n ∷ ns) l = absurd (omega arith)
spans_lengths (a ∷ as') [] l = absurd (omega arith)
spans_lengths (a ∷ as') (n ∷ ns) l = ap (λ ms. n ∷ ms) (spans_lengths as' ns (omega arith))

pub taken_lengths : (m after : DataSpace) (ns : List Cell) (bs : List Span) → blocks_taken m ns ≡ Ok (bs, after)
    → lengths bs ≡ ns
taken_lengths m after ns bs e = go (instances_taken m ns) refl e
  where
    go : (r : Result (List Cell × DataSpace) MemFault) → instances_taken m ns ≡ r → all_left ns r ≡ Ok (bs, after)
        → lengths bs ≡ ns
    go (Err fault) f h = absurd cc
    go (Ok x) f h =
        let both : ◌≡◌ {A = List Span × DataSpace} (spans x.0 ns, x.1) (bs, after) = cc in
        ap (λ (p : List Span × DataSpace). lengths p.0) (sym both)
        ∙ spans_lengths x.0 ns (addresses_length m x.1 ns x.0 f)

lengths_push : (bs : List Span) (b : Span) → lengths (bs ++ b ∷ []) ≡ lengths bs ++ b.length ∷ []
lengths_push [] b = refl
lengths_push (c ∷ bs) b = ap (λ ns. c.length ∷ ns) (lengths_push bs b)

sizes_push : (ss : List Slot) (s : Slot) → sizes (ss ++ s ∷ []) ≡ sizes ss ++ size_of s.template ∷ []
sizes_push [] s = refl
sizes_push (t ∷ ss) s = ap (λ ns. size_of t.template ∷ ns) (sizes_push ss s)

pub lengths_count : (bs : List Span) → length (lengths bs) ≡ length bs
lengths_count [] = refl
lengths_count (b ∷ bs) = ap (λ n. suc n) (lengths_count bs)

-- ---- one more slot

same_is : (a b : Phandle) → is_same a b ≡ is_same b a
same_is a b = grind (arith, common_steps)

slots_more : (ph p : Phandle) (slots : List Slot) (t : Template) → is_same ph p ≡ true
    → sizes (slots_of p (with_slot slots ph t)) ≡ sizes (slots_of p slots) ++ size_of t ∷ []
slots_more ph p slots t e =
    let s : Slot = record { «package» = ph; place = length (slots_of ph slots); template = t } in
    let own : slots_of p (s ∷ []) ≡ s ∷ [] = rw e refl in
    ap sizes (filter-append (λ (x : Slot). is_same x.«package» p) slots (s ∷ [])
    ∙ ap (λ ss. slots_of p slots ++ ss) own)
    ∙ sizes_push (slots_of p slots) s

slots_same : (ph p : Phandle) (slots : List Slot) (t : Template) → is_same ph p ≡ false
    → slots_of p (with_slot slots ph t) ≡ slots_of p slots
slots_same ph p slots t e =
    let s : Slot = record { «package» = ph; place = length (slots_of ph slots); template = t } in
    let none : slots_of p (s ∷ []) ≡ [] = rw e refl in
    filter-append (λ (x : Slot). is_same x.«package» p) slots (s ∷ []) ∙ ap (λ ss. slots_of p slots ++ ss) none
    ∙ append-nil (slots_of p slots)

take_whole : (xs : List Slot) → take (length xs) xs ≡ xs
take_whole [] = refl
take_whole (x ∷ xs) = ap (λ ys. x ∷ ys) (take_whole xs)

-- the slot that a new one is
abbrev new_slot : List Slot → Phandle → Template → Slot
new_slot slots ph t = record { «package» = ph; place = length (slots_of ph slots); template = t }

still_numbered : (slots : List Slot) (ph : Phandle) (t : Template) → AreNumbered slots
    → AreNumbered (with_slot slots ph t)
still_numbered slots ph t h n s e = go (place_in slots n e)
  where
    place_in : (xs : List Slot) (n : ℕ) → slice_get (xs ++ new_slot slots ph t ∷ []) n ≡ Some s
        → ((n < length xs) × (slice_get xs n ≡ Some s)) ⊎ ((n ≡ length xs) × (s ≡ new_slot slots ph t))
    place_in [] zero f = inr (refl, cc)
    place_in [] (suc n) f = absurd cc
    place_in (x ∷ xs) zero f = inl (omega arith, f)
    place_in (x ∷ xs) (suc n) f =
        elim (place_in xs n f) [
          | inl w ↦ inl (omega (arith, w.0), w.1)
          | inr w ↦ inr (ap (λ k. suc k) w.0, w.1)
        ]

    go : ((n < length slots) × (slice_get slots n ≡ Some s)) ⊎ ((n ≡ length slots) × (s ≡ new_slot slots ph t))
        → s.place ≡ length (slots_of s.«package» (take n (with_slot slots ph t)))
    go (inl w) =
        let before = take-append-le n slots (new_slot slots ph t ∷ []) (omega (arith, w.0)) in
        h n s w.1 ∙ ap (λ xs. length (slots_of s.«package» xs)) (sym before)
    go (inr w) =
        let before = take-append-le n slots (new_slot slots ph t ∷ []) (omega (arith, w.0)) in
        let all : take n slots ≡ slots = rw w.0 (take_whole slots) in
        rw w.1 (ap (λ xs. length (slots_of ph xs)) (sym (before ∙ all)))

-- an instance that got a block, or is as before
record Grown (es : Entries) (ph : Phandle) (n : Cell) (k : ℕ) (i : Instance) : Type 0 where
  before : Instance
  was : get_or es k None ≡ Some before
  opened : is_open ph (Some before) ≡ true
  block : Span
  size : block.length ≡ n
  now : i ≡ record before { slots = before.slots ++ block ∷ [] }

record Same (es : Entries) (ph : Phandle) (k : ℕ) (i : Instance) : Type 0 where
  was : get_or es k None ≡ Some i
  closed : is_open ph (Some i) ≡ false

later :
    (x : Option Instance) (es : Entries) (ph : Phandle) (n : Cell) (j : ℕ) (i : Instance)
    → Grown es ph n j i ⊎ Same es ph j i → Grown (x ∷ es) ph n (suc j) i ⊎ Same (x ∷ es) ph (suc j) i
later x es ph n j i (inl g) =
    inl (record {
      before = g.before;
      was = g.was;
      opened = g.opened;
      block = g.block;
      size = g.size;
      now = g.now;
    })
later x es ph n j i (inr s) = inr (record { was = s.was; closed = s.closed })

first_grown :
    (x : Option Instance) (es : Entries) (ph : Phandle) (n : Cell) (b : Span) (i : Instance) → is_open ph x ≡ true
    → b.length ≡ n → with_block x b ≡ Some i → Grown (x ∷ es) ph n zero i
first_grown None es ph n b i h l e = absurd cc
first_grown (Some y) es ph n b i h l e =
    record { before = y; was = refl; opened = h; block = b; size = l; now = cc }

first_same :
    (x : Option Instance) (es : Entries) (ph : Phandle) (i : Instance) → is_open ph x ≡ false → x ≡ Some i
    → Same (x ∷ es) ph zero i
first_same x es ph i h e = let h' = rw e at h in record { was = e; closed = h' }

same_front : (x y : Cell) (xs ys : List Cell) → ◌≡◌ {A = List Cell} (x ∷ xs) (y ∷ ys) → (x ≡ y) × (xs ≡ ys)
same_front x y xs ys e = (cc, cc)

grown : (es : Entries) (ph : Phandle) (n : Cell) (bs : List Span) (k : ℕ) (i : Instance)
    → lengths bs ≡ replicate (count_by (is_open ph) es) n → get_or (with_blocks ph es bs) k None ≡ Some i
    → Grown es ph n k i ⊎ Same es ph k i
grown [] ph n bs zero i l e = absurd cc
grown [] ph n bs (suc k) i l e = absurd cc
grown (x ∷ es) ph n bs k i l e = go (is_open ph x) refl (λ cs j. grown es ph n cs j i) bs k l e
  where
    go : (b : Bool) → is_open ph x ≡ b
        → ((cs : List Span) (j : ℕ) → lengths cs ≡ replicate (count_by (is_open ph) es) n
        → get_or (with_blocks ph es cs) j None ≡ Some i → Grown es ph n j i ⊎ Same es ph j i)
        → (bs : List Span) (k : ℕ) → lengths bs ≡ replicate (count_by (is_open ph) (x ∷ es)) n
        → get_or (with_blocks ph (x ∷ es) bs) k None ≡ Some i → Grown (x ∷ es) ph n k i ⊎ Same (x ∷ es) ph k i
    go true h rest [] k l e =
        let l' : [] ≡ replicate (suc (count_by (is_open ph) es)) n =
        l ∙ ap (λ c. replicate c n) (counted ph x es h) in
        absurd cc
    go true h rest (b ∷ bs) zero l e =
        let l' : b.length ∷ lengths bs ≡ replicate (suc (count_by (is_open ph) es)) n =
        l ∙ ap (λ c. replicate c n) (counted ph x es h) in
        let e' = rw h at e in
        inl (first_grown x es ph n b i h
        (same_front b.length n (lengths bs) (replicate (count_by (is_open ph) es) n) l').0 e')
    go true h rest (b ∷ bs) (suc k) l e =
        let l' : b.length ∷ lengths bs ≡ replicate (suc (count_by (is_open ph) es)) n =
        l ∙ ap (λ c. replicate c n) (counted ph x es h) in
        let e' = rw h at e in
        later x es ph n k i (rest bs k
        (same_front b.length n (lengths bs) (replicate (count_by (is_open ph) es) n) l').1 e')
    go false h rest [] zero l e = inr (first_same x es ph i h e)
    go false h rest [] (suc k) l e =
        let l' : [] ≡ replicate (count_by (is_open ph) es) n =
        l ∙ ap (λ c. replicate c n) (not_counted ph x es h) in
        let e' : get_or (with_blocks ph es []) k None ≡ Some i = rw (with_blocks_none ph es) e in
        later x es ph n k i (rest [] k l' e')
    go false h rest (b ∷ bs) zero l e = let e' = rw h at e in inr (first_same x es ph i h e')
    go false h rest (b ∷ bs) (suc k) l e =
        let l' : lengths (b ∷ bs) ≡ replicate (count_by (is_open ph) es) n =
        l ∙ ap (λ c. replicate c n) (not_counted ph x es h) in
        let e' = rw h at e in
        later x es ph n k i (rest (b ∷ bs) k l' e')

-- ---- the calls

pub at_first : HasSlots no_instances
at_first = record { numbered = λ n s e. absurd cc; blocks = none_live }
  where
    none_live : HaveBlocks no_instances
    none_live zero i e = absurd cc
    none_live (suc k) i e = absurd cc

pub by_open : (t after : InstanceTable) (m left : DataSpace) (ph : Phandle) (parent ih : Cell) (arguments : List ℕ)
    → HasSlots t → opened t m ph parent arguments ≡ Ok (ih, (after, left)) → HasSlots after
by_open t after m left ph parent ih arguments has e = go (nat_le most_instances (length t.made)) refl
  where
    with_list : (bs : List Span) (taken : DataSpace)
        → lengths bs ≡ lengths_of (record { 0 = length arguments }) (slots_of ph t.slots)
        → opened_at t taken ph parent arguments bs ≡ Ok (ih, (after, left)) → HasSlots after
    with_list [] taken f h = absurd cc
    with_list (b ∷ bs) taken f h =
        let same = left_is (ihandle_of (length t.made)) ih
        (record t { made = t.made ++ Some (instance_at ph parent b bs) ∷ [] }) after
        (begun (written taken b.address.0 arguments) bs (slots_of ph t.slots)) left h in
        let own : lengths bs ≡ sizes (slots_of ph t.slots) =
        (same_front b.length (record { 0 = length arguments }) (lengths bs) (sizes (slots_of ph t.slots)) f).1 in
        rw (← same.0) (record {
          numbered = has.numbered;
          blocks = λ k i g. new own k i (pushed t.made
              (Some (instance_at ph parent b bs)) k i g);
        })
      where
        new : lengths bs ≡ sizes (slots_of ph t.slots) → (k : ℕ) (i : Instance)
            → (get_or t.made k None ≡ Some i) ⊎ (Some (instance_at ph parent b bs) ≡ Some i)
            → lengths i.slots ≡ sizes (slots_of i.«package» t.slots)
        new own k i (inl g) = has.blocks k i g
        new own k i (inr g) =
            let is : instance_at ph parent b bs ≡ i = cc in rw (← is) own

    taken : (r : Result (List Span × DataSpace) InstanceFault)
        → blocks_taken m (lengths_of (record { 0 = length arguments }) (slots_of ph t.slots)) ≡ r
        → opened_with t ph parent arguments r ≡ Ok (ih, (after, left)) → HasSlots after
    taken (Err fault) f h = absurd cc
    taken (Ok x) f h =
        with_list x.0 x.1 (taken_lengths m x.1
        (lengths_of (record { 0 = length arguments }) (slots_of ph t.slots)) x.0 f) h

    go : (b : Bool) → nat_le most_instances (length t.made) ≡ b → HasSlots after
    go true h = let no = rw h at e in absurd cc
    go false h =
        let e' = rw h at e in
        taken (blocks_taken m (lengths_of (record { 0 = length arguments }) (slots_of ph t.slots))) refl e'

pub by_close : (t after : InstanceTable) (m left : DataSpace) (ih : Cell)
    → HasSlots t → closed t m ih ≡ Ok (tt, (after, left)) → HasSlots after
by_close t after m left ih has e = numbered (number_of (length t.made) ih) e
  where
    kept : (j k : ℕ) (i : Instance) → (get_or t.made k None ≡ Some i) ⊎ (None ≡ Some i)
        → lengths i.slots ≡ sizes (slots_of i.«package» t.slots)
    kept j k i (inl g) = has.blocks k i g
    kept j k i (inr g) = absurd cc

    at : (k : ℕ) (o : Option Instance) → closed_at t m k o ≡ Ok (tt, (after, left)) → HasSlots after
    at k None h = absurd cc
    at k (Some i) h =
        let same = left_is tt tt (record t { made = set t.made k None }) after
        (given_all (given m i.arguments) i.slots) left h in
        rw (← same.0) (record { numbered = has.numbered; blocks = λ l j g. kept k l j (put t.made k None l j g) })

    numbered : (o : Option ℕ) → closed_by t m o ≡ Ok (tt, (after, left)) → HasSlots after
    numbered None h = absurd cc
    numbered (Some k) h = at k (get_or t.made k None) h

pub by_release : (t after : InstanceTable) (m left : DataSpace) (ih : Cell)
    → HasSlots t → released t m ih ≡ (after, left) → HasSlots after
by_release t after m left ih has e = go (closed t m ih) refl e
  where
    go : (r : Result (Unit {0} × (InstanceTable × DataSpace)) InstanceFault) → closed t m ih ≡ r
        → release_left t m r ≡ (after, left) → HasSlots after
    go (Err fault) f h = subst (λ (p : InstanceTable × DataSpace). HasSlots p.0) h has
    go (Ok x) f h = subst (λ (p : InstanceTable × DataSpace). HasSlots p.0) h (by_close t x.1.0 m x.1.1 ih has f)

pub by_arguments :
    (t after : InstanceTable) (m left : DataSpace) (ih : Cell) (arguments : List ℕ) (unit : List Cell)
    → HasSlots t → arguments_set t m ih arguments unit ≡ Ok (tt, (after, left)) → HasSlots after
by_arguments t after m left ih arguments unit has e = numbered (number_of (length t.made) ih) e
  where
    kept : (k : ℕ) (old other : Instance) → get_or t.made k None ≡ Some old → old.«package» ≡ other.«package»
        → old.slots ≡ other.slots → (l : ℕ) (i : Instance)
        → (get_or t.made l None ≡ Some i) ⊎ (Some other ≡ Some i)
        → lengths i.slots ≡ sizes (slots_of i.«package» t.slots)
    kept k old other f p q l i (inl g) = has.blocks l i g
    kept k old other f p q l i (inr g) =
        let is : other ≡ i = cc in
        rw (← is, ← p, ← q) (has.blocks k old f)

    copied : (k : ℕ) (i : Instance) → get_or t.made k None ≡ Some i → (r : Result (Span × DataSpace) InstanceFault)
        → arguments_left t k i unit r ≡ Ok (tt, (after, left)) → HasSlots after
    copied k i f (Err fault) h = absurd cc
    copied k i f (Ok x) h =
        let other : Instance = record i { arguments = x.0; unit = unit_of unit } in
        let same = left_is tt tt (record t { made = set t.made k (Some other) }) after
        (given x.1 i.arguments) left h in
        rw (← same.0) (record {
          numbered = has.numbered;
          blocks = λ l j g. kept k i other f refl refl l j (put t.made k (Some other) l j g);
        })

    at : (k : ℕ) (o : Option Instance) → get_or t.made k None ≡ o
        → arguments_at t m arguments unit k o ≡ Ok (tt, (after, left)) → HasSlots after
    at k None f h = absurd cc
    at k (Some i) f h = copied k i f (copy_taken m arguments) h

    numbered : (o : Option ℕ) → arguments_by t m arguments unit o ≡ Ok (tt, (after, left)) → HasSlots after
    numbered None h = absurd cc
    numbered (Some k) h = at k (get_or t.made k None) refl h

pub by_slot : (t after : InstanceTable) (m left : DataSpace) (ph : Phandle) (template : Template) (n : ℕ)
    → HasSlots t → slotted t m ph template ≡ Ok (n, (after, left)) → HasSlots after
by_slot t after m left ph template n has e =
    taken (blocks_taken m (replicate (count_by (is_open ph) t.made) (size_of template))) refl e
  where
    kept : (k : ℕ) (i : Instance) → Grown t.made ph (size_of template) k i ⊎ Same t.made ph k i
        → lengths i.slots ≡ sizes (slots_of i.«package» (with_slot t.slots ph template))
    kept k i (inl g) =
        let old = has.blocks k g.before g.was in
        let both : is_same ph g.before.«package» ≡ true = same_is ph g.before.«package» ∙ g.opened in
        let more = slots_more ph g.before.«package» t.slots template both in
        rw g.now (lengths_push g.before.slots g.block ∙ ap (λ x. lengths g.before.slots ++ x ∷ []) g.size
        ∙ ap (λ xs. xs ++ size_of template ∷ []) old ∙ sym more)
    kept k i (inr s) =
        let old = has.blocks k i s.was in
        let other : is_same ph i.«package» ≡ false = same_is ph i.«package» ∙ s.closed in
        old ∙ ap sizes (sym (slots_same ph i.«package» t.slots template other))

    taken : (r : Result (List Span × DataSpace) InstanceFault)
        → blocks_taken m (replicate (count_by (is_open ph) t.made) (size_of template)) ≡ r
        → slotted_with t ph template r ≡ Ok (n, (after, left)) → HasSlots after
    taken (Err fault) f h = absurd cc
    taken (Ok x) f h =
        let ns = replicate (count_by (is_open ph) t.made) (size_of template) in
        let same = left_is (length t.slots) n
        (record { made = with_blocks ph t.made x.0; slots = with_slot t.slots ph template }) after
        (all_begun x.1 x.0 template) left h in
        rw (← same.0) (record {
          numbered = still_numbered t.slots ph template has.numbered;
          blocks = λ k i g. kept k i (grown t.made ph (size_of template) x.0 k i (taken_lengths m x.1 ns x.0 f) g);
        })
