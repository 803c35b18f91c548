-- The law `slots_are_own`.
use Rattle.std.proofs.Common.{◌≡◌, ◌≢◌, ℕ, zero, suc, ◌+◌, ◌-◌, ◌*◌}
use Rattle.std.proofs.Common.{◌/◌, ◌%◌, ◌^◌, ◌&&◌, ◌<◌, ◌≤◌, ◌⊎◌, inl, inr}
use Rattle.std.proofs.Common.{Bool, true}
use Rattle.std.proofs.Common.{false, List, [], ◌∷◌, ◌++◌, length, get_or, take, drop, Option, Some, None, Result, Ok}
use Rattle.std.proofs.Common.{Err}
use Rattle.std.proofs.Common.{refl, sym, ap, ◌∙◌, arith, nat_lt}
use Rattle.std.specs.Prelude.{◌==◌, count_by}
use Rattle.std.specs.List.{slice_get}
use Rattle.std.proofs.lemmas.Bool.{cases_eq, cases_lt}
use Rattle.std.proofs.lemmas.Grind.{common_steps}
use Rattle.std.proofs.lemmas.List.{places, same_lists}
use Rattle.std.proofs.lemmas.Option.{slice_get_within}
use Rattle.byteorder.specs.Endian.{big_bytes, big_number}
use Rattle.byteorder.specs.Numbers.{big_number-reads_back}
use Rattle.of_cells.specs.declared.cells.Cell.{Cell}
use Rattle.of_memory.specs.Access.{read_bytes, read_fault}
use Rattle.of_memory.specs.Blocks.{AreLaid, is_block, rounded}
use Rattle.of_memory.specs.DataSpace.{DataSpace, IsSound, bytes_from, splice, written}
use Rattle.of_memory.specs.Regions.{byte_count, instance_limit, instance_start, place_of, span as apart_by}
use Rattle.of_memory.specs.declared.width.Width.TheVariants.{One}
use Rattle.of_nodes.specs.declared.phandles.Phandle.{Phandle}
use Rattle.of_nodes.specs.declared.properties.Span.{Span}
use Rattle.of_ihandles.specs.declared.instance_fault.InstanceFault.{InstanceFault}
use Rattle.of_ihandles.specs.declared.instances.Instance.{Instance}
use Rattle.of_ihandles.specs.declared.slots.Slot.{Slot}
use Rattle.of_ihandles.specs.Blocks.{cell_at}
use Rattle.of_ihandles.specs.Instances.{argument_span, block_in, block_or, cell_in, first_ihandle, found}
use Rattle.of_ihandles.specs.Instances.{number_at as at_distance}
use Rattle.of_ihandles.specs.Instances.{number_of, numbered, of_instance, slot_block, slot_read, slot_stored}
use Rattle.of_ihandles.specs.Instances.{stored_in}
use Rattle.of_ihandles.specs.OwnSlots.{HasSlot, HasSlots, SlotsAreOwn}
use Rattle.of_ihandles.specs.OwnedBlocks.{AreApart, OwnBlocks, blocks_of, is_held, live_blocks}
use Rattle.of_ihandles.specs.Slots.{is_same, size_of, slots_of}
use Rattle.of_ihandles.specs.Table.{InstanceTable}
use Rattle.of_ihandles.proofs.BlockAccess.{reads, rounded_up}
use Rattle.of_ihandles.proofs.BlockCounts.{count-cons, none, once}
use Rattle.of_ihandles.proofs.OwnedByCalls.{apart, counted_once, held_itself, laid_from}
use Rattle.of_ihandles.proofs.SlotsByCalls.{at_first, by_arguments, by_close, by_open, by_release, by_slot}
use Rattle.of_ihandles.proofs.SlotsByCalls.{lengths, sizes}

abbrev Entries : Type 0
Entries = List (Option Instance)

-- ---- handles

-- the number of an ihandle
pub ihandle_is : (count k : ℕ) (ih : Cell) → number_of count ih ≡ Some k → ih.0 ≡ first_ihandle + 4 * k
ihandle_is count k ih e = go (nat_lt ih.0 first_ihandle) refl
  where
    at : (b : Bool) → ((ih.0 - first_ihandle) % 4 == 0 && nat_lt ((ih.0 - first_ihandle) / 4) count) ≡ b
        → first_ihandle ≤ ih.0 → at_distance count (ih.0 - first_ihandle) ≡ Some k → ih.0 ≡ first_ihandle + 4 * k
    at false h l f = let no = rw h at f in absurd cc
    at true h l f =
        let f' = rw h at f in
        let same : (ih.0 - first_ihandle) / 4 ≡ k = cc in
        let even : (ih.0 - first_ihandle) % 4 ≡ 0 = grind (arith, common_steps) in
        omega (arith, same, even, l)

    go : (b : Bool) → nat_lt ih.0 first_ihandle ≡ b → ih.0 ≡ first_ihandle + 4 * k
    go true h = let no = rw h at e in absurd cc
    go false h =
        let e' = rw h at e in
        let l : first_ihandle ≤ ih.0 = grind (arith, common_steps) in
        at ((ih.0 - first_ihandle) % 4 == 0 && nat_lt ((ih.0 - first_ihandle) / 4) count) refl l e'

record HasNumber (t : InstanceTable) (ih : Cell) (i : Instance) : Type 0 where
  number : ℕ
  at : get_or t.made number None ≡ Some i
  handle : ih.0 ≡ first_ihandle + 4 * number

has_number : (t : InstanceTable) (ih : Cell) (i : Instance) → found t ih ≡ Some i → HasNumber t ih i
has_number t ih i e = go (number_of (length t.made) ih) refl e
  where
    go : (o : Option ℕ) → number_of (length t.made) ih ≡ o → numbered t o ≡ Some i → HasNumber t ih i
    go None f h = absurd cc
    go (Some k) f h = record { number = k; at = h; handle = ihandle_is (length t.made) k ih f }

pub same_package : (a b : Phandle) → is_same a b ≡ true → a ≡ b
same_package a b e =
    let f : a.0.0 ≡ b.0.0 = grind (arith, common_steps) in
    ap (λ (x : ℕ). let p : Phandle = record { 0 = record { 0 = x } } in p) f

-- ---- the block of a slot

-- the slot stands among those of its package at its place
pub at_place : (slots : List Slot) (n : ℕ) (s : Slot) (p : Phandle) → slice_get slots n ≡ Some s
    → is_same s.«package» p ≡ true
    → slice_get (slots_of p slots) (length (slots_of p (take n slots))) ≡ Some s
at_place [] n s p e h = absurd cc
at_place (x ∷ slots) zero s p e h =
    let same : x ≡ s = cc in
    rw same (rw h refl)
at_place (x ∷ slots) (suc n) s p e h = go (is_same x.«package» p) refl (at_place slots n s p e h)
  where
    go : (b : Bool) → is_same x.«package» p ≡ b
        → slice_get (slots_of p slots) (length (slots_of p (take n slots))) ≡ Some s
        → slice_get (slots_of p (x ∷ slots)) (length (slots_of p (take (suc n) (x ∷ slots)))) ≡ Some s
    go true f rest = rw f rest
    go false f rest = rw f rest

sized : (ss : List Slot) (n : ℕ) (s : Slot) → slice_get ss n ≡ Some s
    → slice_get (sizes ss) n ≡ Some (size_of s.template)
sized [] n s e = absurd cc
sized (x ∷ ss) zero s e = let same : x ≡ s = cc in ap (λ (y : Slot). Some (size_of y.template)) same
sized (x ∷ ss) (suc n) s e = sized ss n s e

record OfLength (bs : List Span) (n : ℕ) (c : Cell) : Type 0 where
  block : Span
  there : slice_get bs n ≡ Some block
  size : block.length ≡ c

of_length : (bs : List Span) (n : ℕ) (c : Cell) → slice_get (lengths bs) n ≡ Some c → OfLength bs n c
of_length [] n c e = absurd cc
of_length (b ∷ bs) zero c e = record { block = b; there = refl; size = cc }
of_length (b ∷ bs) (suc n) c e =
    let r : OfLength bs n c = of_length bs n c e in record { block = r.block; there = r.there; size = r.size }

pub there : (t : InstanceTable) (ih : Cell) (i : Instance) (n : ℕ) (s : Slot) → HasSlots t → found t ih ≡ Some i
    → slice_get t.slots n ≡ Some s → is_same s.«package» i.«package» ≡ true → HasSlot t ih n s
there t ih i n s has e f h =
    let k : HasNumber t ih i = has_number t ih i e in
    let p : s.«package» ≡ i.«package» = same_package s.«package» i.«package» h in
    let place : s.place ≡ length (slots_of i.«package» (take n t.slots)) =
    has.numbered n s f ∙ ap (λ q. length (slots_of q (take n t.slots))) p in
    let among : slice_get (sizes (slots_of i.«package» t.slots)) s.place ≡ Some (size_of s.template) =
    rw place (sized (slots_of i.«package» t.slots) (length (slots_of i.«package» (take n t.slots))) s
    (at_place t.slots n s i.«package» f h)) in
    let o : OfLength i.slots s.place (size_of s.template) =
    of_length i.slots s.place (size_of s.template) (rw (has.blocks k.number i k.at) among) in
    record { block = o.block; found = rw (e, f) (rw h (rw o.there refl)); size = o.size }

-- what the block of a slot is
pub record IsSlot (t : InstanceTable) (ih : Cell) (n : ℕ) (b : Span) : Type 0 where
  pub number : ℕ
  pub instance : Instance
  pub slot : Slot
  pub at : get_or t.made number None ≡ Some instance
  pub handle : ih.0 ≡ first_ihandle + 4 * number
  pub is : slice_get t.slots n ≡ Some slot
  pub own : is_same slot.«package» instance.«package» ≡ true
  pub block : slice_get instance.slots slot.place ≡ Some b

pub is_slot : (t : InstanceTable) (ih : Cell) (n : ℕ) (b : Span) → slot_block t ih n ≡ Ok b → IsSlot t ih n b
is_slot t ih n b e = by_instance (found t ih) refl e
  where
    by_block : (i : Instance) (s : Slot) → found t ih ≡ Some i → slice_get t.slots n ≡ Some s
        → is_same s.«package» i.«package» ≡ true → (o : Option Span) → slice_get i.slots s.place ≡ o
        → block_or o ≡ Ok b → IsSlot t ih n b
    by_block i s f g h None k l = absurd cc
    by_block i s f g h (Some c) k l =
        let num : HasNumber t ih i = has_number t ih i f in
        let same : c ≡ b = cc in
        record {
          number = num.number;
          instance = i;
          slot = s;
          at = num.at;
          handle = num.handle;
          is = g;
          own = h;
          block = k ∙ ap (λ (x : Span). Some x) same;
        }

    by_package : (i : Instance) (s : Slot) → found t ih ≡ Some i → slice_get t.slots n ≡ Some s → (c : Bool)
        → is_same s.«package» i.«package» ≡ c → block_in (Some s) i ≡ Ok b → IsSlot t ih n b
    by_package i s f g false h k = let no = rw h at k in absurd cc
    by_package i s f g true h k =
        let k' = rw h at k in by_block i s f g h (slice_get i.slots s.place) refl k'

    by_slot_there : (i : Instance) → found t ih ≡ Some i → (o : Option Slot) → slice_get t.slots n ≡ o
        → block_in o i ≡ Ok b → IsSlot t ih n b
    by_slot_there i f None g h = absurd cc
    by_slot_there i f (Some s) g h = by_package i s f g (is_same s.«package» i.«package») refl h

    by_instance : (o : Option Instance) → found t ih ≡ o → of_instance o (block_in (slice_get t.slots n)) ≡ Ok b
        → IsSlot t ih n b
    by_instance None f h = absurd cc
    by_instance (Some i) f h = by_slot_there i f (slice_get t.slots n) refl h

-- ---- places in the list of all live blocks

pub offset : Entries → ℕ → ℕ
offset [] k = 0
offset (e ∷ es) zero = 0
offset (e ∷ es) (suc k) = length (blocks_of e) + offset es k

get_front : {X : Type 0} (xs ys : List X) (j : ℕ) (x : X) → slice_get xs j ≡ Some x → slice_get (xs ++ ys) j ≡ Some x
get_front [] ys j x e = absurd cc
get_front (z ∷ xs) ys zero x e = e
get_front (z ∷ xs) ys (suc j) x e = get_front xs ys j x e

get_behind : {X : Type 0} (xs ys : List X) (j n : ℕ) → n ≡ length xs + j → slice_get (xs ++ ys) n ≡ slice_get ys j
get_behind [] ys j n e = ap (λ k. slice_get ys k) (omega (arith, e))
get_behind (x ∷ xs) ys j zero e = absurd (omega arith)
get_behind (x ∷ xs) ys j (suc n) e = get_behind xs ys j n (omega arith)

pub in_blocks : (es : Entries) (k j n : ℕ) (i : Instance) (b : Span) → get_or es k None ≡ Some i
    → slice_get (blocks_of (Some i)) j ≡ Some b → n ≡ offset es k + j → slice_get (live_blocks es) n ≡ Some b
unfolding offset
in_blocks [] zero j n i b e f h = absurd cc
in_blocks [] (suc k) j n i b e f h = absurd cc
in_blocks (x ∷ es) zero j n i b e f h =
    let same : n ≡ j = omega (arith, h) in
    rw (e, same) (get_front (blocks_of (Some i)) (live_blocks es) j b f)
in_blocks (x ∷ es) (suc k) j n i b e f h =
    get_behind (blocks_of x) (live_blocks es) (offset es k + j) n (omega (arith, h))
    ∙ in_blocks es k j (offset es k + j) i b e f refl

rises : (es : Entries) (k l : ℕ) (i : Instance) → k < l → l < length es → get_or es k None ≡ Some i
    → offset es k + length (blocks_of (Some i)) ≤ offset es l
unfolding offset
rises [] k l i lt in' e = absurd (omega arith)
rises (x ∷ es) k zero i lt in' e = absurd (omega arith)
rises (x ∷ es) zero (suc l) i lt in' e = rw e (omega arith)
rises (x ∷ es) (suc k) (suc l) i lt in' e = let r = rises es k l i (omega arith) (omega arith) e in omega (arith, r)

pub live_in : (es : Entries) (k : ℕ) (i : Instance) → get_or es k None ≡ Some i → k < length es
live_in [] zero i e = absurd cc
live_in [] (suc k) i e = absurd cc
live_in (x ∷ es) zero i e = omega arith
live_in (x ∷ es) (suc k) i e = let l = live_in es k i e in omega arith

-- two blocks of instances have two places
two_places : (es : Entries) (k l x y : ℕ) (i j : Instance) (b c : Span) → get_or es k None ≡ Some i
    → get_or es l None ≡ Some j → slice_get (blocks_of (Some i)) x ≡ Some b → slice_get (blocks_of (Some j)) y ≡ Some c
    → (k ≡ l → x ≡ y → ⊥) → offset es k + x ≢ offset es l + y
two_places es k l x y i j b c e f g h other =
    let p = slice_get_within (blocks_of (Some i)) x b g in
    let q = slice_get_within (blocks_of (Some j)) y c h in
    elim (cases_lt k l) [
      | inl less ↦
          let r = rises es k l i less (live_in es l j f) e in
          λ same. omega (arith, p, q, r, same)
      | inr not_less ↦ elim (cases_eq k l) [
        | inl equal ↦ λ same. other equal (let same' = rw equal at same in omega (arith, same'))
        | inr different ↦
            let r = rises es l k j (omega (arith, not_less, different)) (live_in es k i e) f in
            λ same. omega (arith, p, q, r, same)
      ]
    ]

-- ---- places of slots

more_own : (p : Phandle) (slots : List Slot) (n k : ℕ) (s : Slot) → n < k → slice_get slots n ≡ Some s
    → is_same s.«package» p ≡ true → length (slots_of p (take n slots)) < length (slots_of p (take k slots))
more_own p [] n k s l e h = absurd cc
more_own p (x ∷ slots) n zero s l e h = absurd (omega arith)
more_own p (x ∷ slots) zero (suc k) s l e h =
    let same : x ≡ s = cc in
    let h' : is_same x.«package» p ≡ true = rw same h in
    rw h' (omega arith)
more_own p (x ∷ slots) (suc n) (suc k) s l e h =
    go (is_same x.«package» p) refl (more_own p slots n k s (omega arith) e h)
  where
    go : (b : Bool) → is_same x.«package» p ≡ b
        → length (slots_of p (take n slots)) < length (slots_of p (take k slots))
        → length (slots_of p (take (suc n) (x ∷ slots))) < length (slots_of p (take (suc k) (x ∷ slots)))
    go true f rest = rw f (omega (arith, rest))
    go false f rest = rw f rest

two_slots : (t : InstanceTable) (n k : ℕ) (s r : Slot) (p : Phandle) → HasSlots t → slice_get t.slots n ≡ Some s
    → slice_get t.slots k ≡ Some r → is_same s.«package» p ≡ true → is_same r.«package» p ≡ true → n ≢ k
    → s.place ≢ r.place
two_slots t n k s r p has e f g h other =
    let a : s.place ≡ length (slots_of p (take n t.slots)) =
    has.numbered n s e ∙ ap (λ q. length (slots_of q (take n t.slots))) (same_package s.«package» p g) in
    let b : r.place ≡ length (slots_of p (take k t.slots)) =
    has.numbered k r f ∙ ap (λ q. length (slots_of q (take k t.slots))) (same_package r.«package» p h) in
    elim (cases_lt n k) [
      | inl less ↦ let m = more_own p t.slots n k s less e g in λ same. omega (arith, a, b, m, same)
      | inr not_less ↦
          let m = more_own p t.slots k n r (omega (arith, not_less, other)) f h in
          λ same. omega (arith, a, b, m, same)
    ]

-- ---- bytes of blocks

laid_ordered : (low high : ℕ) (bs : _) → AreLaid low high bs → low ≤ high
laid_ordered low high [] h = h.0
laid_ordered low high (b ∷ bs) h =
    let l : b.at + b.size ≤ high = laid_ordered (b.at + b.size) high bs h.1 in omega (arith, h.0.above, l)

laid_to : (low high a s : ℕ) (bs : _) → AreLaid low high bs → 1 ≤ count_by (is_block a s) bs → a + s ≤ high
laid_to low high a s [] h some = absurd (omega arith)
laid_to low high a s (b ∷ bs) h some = go (is_block a s b) refl (laid_to (b.at + b.size) high a s bs h.1)
  where
    go : (t : Bool) → is_block a s b ≡ t → (1 ≤ count_by (is_block a s) bs → a + s ≤ high) → a + s ≤ high
    go true e rest =
        let at : b.at ≡ a = grind (arith, common_steps) in
        let size : b.size ≡ s = grind (arith, common_steps) in
        let l = laid_ordered (b.at + b.size) high bs h.1 in
        omega (arith, at, size, l)
    go false e rest =
        let cons = count-cons (is_block a s) b bs in
        let no : once (is_block a s b) ≡ 0 = rw e none in
        rest (omega (arith, cons, no))

pub record IsHere (b : Span) : Type 0 where
  pub from : instance_start ≤ b.address.0
  pub to : b.address.0 + rounded b.length.0 ≤ instance_limit

pub is_here : (t : InstanceTable) (m : DataSpace) (n : ℕ) (b : Span) → IsSound m → OwnBlocks t m
    → slice_get (live_blocks t.made) n ≡ Some b → IsHere b
is_here t m n b sound own e =
    record {
      from = laid_from instance_start instance_limit b.address.0 (rounded b.length.0) m.instances sound.instances here;
      to = laid_to instance_start instance_limit b.address.0 (rounded b.length.0) m.instances sound.instances here;
    }
  where
    here : 1 ≤ count_by (is_block b.address.0 (rounded b.length.0)) m.instances
    here =
        let n = counted_once (is_held b.address.0 (rounded b.length.0)) (live_blocks t.made) n b e (held_itself b) in
        omega (arith, n, own b.address.0 (rounded b.length.0))

spliced_apart : (l ys : List ℕ) (i j n : ℕ) → i + length ys ≤ length l → j + n ≤ length l
    → (j + n ≤ i) ⊎ (i + length ys ≤ j) → take n (drop j (splice l i ys)) ≡ take n (drop j l)
spliced_apart l ys i j n fits in' (inl before) =
    same_lists _ _ (grind (arith, places)) (λ k d h. grind (arith, places))
spliced_apart l ys i j n fits in' (inr behind) =
    same_lists _ _ (grind (arith, places)) (λ k d h. grind (arith, places))

pub place_in_region : (a : ℕ) → instance_start ≤ a → a ≤ instance_limit → place_of a + instance_start ≡ a + 0x8_0000
place_in_region a from to = let three : a / apart_by ≡ 3 = omega arith in omega (arith, three)

-- what is written to one block isn't read from another
pub same_bytes : (m : DataSpace) (b c : Span) (n : ℕ) (ys : List ℕ) → length m.bytes ≡ byte_count
    → IsHere b → IsHere c → AreApart b c
    → length ys ≤ rounded b.length.0 → n ≤ rounded c.length.0
    → bytes_from (written m b.address.0 ys) c.address.0 n ≡ bytes_from m c.address.0 n
same_bytes m b c n ys len here there gap few short =
    let p = place_in_region b.address.0 here.from (omega (arith, here.to)) in
    let q = place_in_region c.address.0 there.from (omega (arith, there.to)) in
    spliced_apart m.bytes ys (place_of b.address.0) (place_of c.address.0) n
    (omega (arith, p, here.to, few, len)) (omega (arith, q, there.to, short, len)) (sides p q gap)
  where
    sides : place_of b.address.0 + instance_start ≡ b.address.0 + 0x8_0000
        → place_of c.address.0 + instance_start ≡ c.address.0 + 0x8_0000 → AreApart b c
        → (place_of c.address.0 + n ≤ place_of b.address.0) ⊎ (place_of b.address.0 + length ys ≤ place_of c.address.0)
    sides p q (inl g) = inr (omega (arith, p, q, g, few))
    sides p q (inr g) = inl (omega (arith, p, q, g, short))

-- what is written to a block is read there
pub bytes_back : (m : DataSpace) (b : Span) (ys : List ℕ) → length m.bytes ≡ byte_count → IsHere b
    → length ys ≤ rounded b.length.0 → bytes_from (written m b.address.0 ys) b.address.0 (length ys) ≡ ys
bytes_back m b ys len here few =
    let p = place_in_region b.address.0 here.from (omega (arith, here.to)) in
    read_back m.bytes ys (place_of b.address.0) (omega (arith, p, here.to, few, len))
  where
    read_back : (l zs : List ℕ) (i : ℕ) → i + length zs ≤ length l
        → take (length zs) (drop i (splice l i zs)) ≡ zs
    read_back l zs i fits = same_lists _ _ (grind (arith, places)) (λ k d h. grind (arith, places))

-- ---- stores

-- what a store leaves
record IsStored (m after : DataSpace) (t : InstanceTable) (ih : Cell) (n : ℕ) (x : Cell) : Type 0 where
  block : Span
  found : slot_block t ih n ≡ Ok block
  wrote : after ≡ written m block.address.0 (big_bytes 4 x.0)

is_stored : (m after : DataSpace) (t : InstanceTable) (ih : Cell) (n : ℕ) (x : Cell)
    → slot_stored m t ih n x ≡ Ok (tt, after) → IsStored m after t ih n x
is_stored m after t ih n x e = go (slot_block t ih n) refl e
  where
    go : (r : Result Span InstanceFault) → slot_block t ih n ≡ r → stored_in m x r ≡ Ok (tt, after)
        → IsStored m after t ih n x
    go (Err fault) f h = absurd cc
    go (Ok b) f h =
        let both : ◌≡◌ {A = Unit {0} × DataSpace} (tt, written m b.address.0 (big_bytes 4 x.0)) (tt, after) = cc in
        record { block = b; found = f; wrote = sym (ap (λ (p : Unit {0} × DataSpace). p.1) both) }

slot_there : (t : InstanceTable) (m : DataSpace) (ih : Cell) (n : ℕ) (b : Span) → IsSound m → OwnBlocks t m
    → slot_block t ih n ≡ Ok b → IsHere b
slot_there t m ih n b sound own e =
    let s : IsSlot t ih n b = is_slot t ih n b e in
    is_here t m (offset t.made s.number + suc s.slot.place) b sound own
    (in_blocks t.made s.number (suc s.slot.place) (offset t.made s.number + suc s.slot.place) s.instance b s.at s.block
    refl)

-- a cell that was written to a block is read there
cell_back : (m after : DataSpace) (b : Span) (x : Cell) → IsSound m → IsHere b → x.0 < 2 ^ 32
    → after ≡ written m b.address.0 (big_bytes 4 x.0) → cell_at after b ≡ x
cell_back m after b x sound here small e =
    let up = rounded_up b.length.0 in
    let back : bytes_from (written m b.address.0 (big_bytes 4 x.0)) b.address.0 4 ≡ big_bytes 4 x.0 =
    bytes_back m b (big_bytes 4 x.0) sound.bytes here (omega (arith, up)) in
    let number : big_number 4 (big_bytes 4 x.0) ≡ x.0 = big_number-reads_back 4 x.0 [] (omega (arith, small)) in
    rw e (ap (λ (y : ℕ). let c : Cell = record { 0 = y } in c) (ap (big_number 4) back ∙ number))

stored : (t : InstanceTable) (m after : DataSpace) (ih : Cell) (n : ℕ) (x : Cell) → IsSound m → OwnBlocks t m
    → x.0 < 2 ^ 32 → slot_stored m t ih n x ≡ Ok (tt, after) → slot_read after t ih n ≡ Ok x
stored t m after ih n x sound own small e =
    let s : IsStored m after t ih n x = is_stored m after t ih n x e in
    let here : IsHere s.block = slot_there t m ih n s.block sound own s.found in
    let back : cell_at after s.block ≡ x = cell_back m after s.block x sound here small s.wrote in
    ap (cell_in after) s.found ∙ ap (λ (y : Cell). Ok y) back

others : (t : InstanceTable) (m after : DataSpace) (ih other : Cell) (n k : ℕ) (x : Cell) → IsSound m
    → OwnBlocks t m → HasSlots t → (ih.0 ≡ other.0 → n ≡ k → ⊥) → slot_stored m t ih n x ≡ Ok (tt, after)
    → slot_read after t other k ≡ slot_read m t other k
others t m after ih other n k x sound own has different e =
    go (slot_block t other k) refl (is_stored m after t ih n x e)
  where
    go : (r : Result Span InstanceFault) → slot_block t other k ≡ r → IsStored m after t ih n x
        → cell_in after r ≡ cell_in m r
    go (Err fault) f s = refl
    go (Ok c) f s =
        let a : IsSlot t ih n s.block = is_slot t ih n s.block s.found in
        let b : IsSlot t other k c = is_slot t other k c f in
        let places_differ = two_places t.made a.number b.number (suc a.slot.place) (suc b.slot.place) a.instance
        b.instance s.block c a.at b.at a.block b.block (not_both a b) in
        let gap = apart t m (offset t.made a.number + suc a.slot.place) (offset t.made b.number + suc b.slot.place)
        s.block c sound own places_differ
        (in_blocks t.made a.number (suc a.slot.place) (offset t.made a.number + suc a.slot.place) a.instance s.block
        a.at a.block refl)
        (in_blocks t.made b.number (suc b.slot.place) (offset t.made b.number + suc b.slot.place) b.instance c b.at
        b.block refl) in
        let up = rounded_up s.block.length.0 in
        let up' = rounded_up c.length.0 in
        let same = same_bytes m s.block c 4 (big_bytes 4 x.0) sound.bytes
        (slot_there t m ih n s.block sound own s.found) (slot_there t m other k c sound own f) gap
        (omega (arith, up)) (omega (arith, up')) in
        rw s.wrote (ap (λ (y : List ℕ). let z : Cell = record { 0 = big_number 4 y } in Ok z) same)
      where
        not_both : {b' c' : Span} (a : IsSlot t ih n b') (b : IsSlot t other k c') → a.number ≡ b.number
            → suc a.slot.place ≡ suc b.slot.place → ⊥
        not_both a b same_number same_place =
            let handles : ih.0 ≡ other.0 = omega (arith, a.handle, b.handle, same_number) in
            let instances : ◌≡◌ {A = Option Instance} (Some a.instance) (Some b.instance) =
            sym a.at ∙ ap (λ q. get_or t.made q None) same_number ∙ b.at in
            let instance_same : a.instance ≡ b.instance = cc in
            let own' : is_same b.slot.«package» a.instance.«package» ≡ true = rw instance_same b.own in
            two_slots t n k a.slot b.slot a.instance.«package» has a.is b.is a.own own' (different handles)
            (omega (arith, same_place))

-- the block of arguments
pub record IsArguments (t : InstanceTable) (ih : Cell) (a : Span) : Type 0 where
  pub number : ℕ
  pub instance : Instance
  pub at : get_or t.made number None ≡ Some instance
  pub is : instance.arguments ≡ a

pub is_arguments : (t : InstanceTable) (ih : Cell) (a : Span) → argument_span t ih ≡ Ok a → IsArguments t ih a
is_arguments t ih a e = go (found t ih) refl e
  where
    go : (o : Option Instance) → found t ih ≡ o
        → of_instance o (λ i. let r : Result Span InstanceFault = Ok i.arguments in r) ≡ Ok a → IsArguments t ih a
    go None f h = absurd cc
    go (Some i) f h =
        let k : HasNumber t ih i = has_number t ih i f in
        record { number = k.number; instance = i; at = k.at; is = cc }

arguments : (t : InstanceTable) (m after : DataSpace) (ih other : Cell) (n : ℕ) (x : Cell) (a : Span) → IsSound m
    → OwnBlocks t m → slot_stored m t ih n x ≡ Ok (tt, after) → argument_span t other ≡ Ok a
    → read_bytes after a.address.0 a.length.0 ≡ read_bytes m a.address.0 a.length.0
arguments t m after ih other n x a sound own e f =
    let s : IsStored m after t ih n x = is_stored m after t ih n x e in
    let b : IsSlot t ih n s.block = is_slot t ih n s.block s.found in
    let c : IsArguments t other a = is_arguments t other a f in
    let first : slice_get (blocks_of (Some c.instance)) 0 ≡ Some a = ap (λ (y : Span). Some y) c.is in
    let places_differ = two_places t.made b.number c.number (suc b.slot.place) 0 b.instance c.instance s.block a b.at
    c.at b.block first (λ g h. omega (arith, h)) in
    let there' = in_blocks t.made c.number 0 (offset t.made c.number + 0) c.instance a c.at first refl in
    let gap = apart t m (offset t.made b.number + suc b.slot.place) (offset t.made c.number + 0) s.block a sound own
    places_differ (in_blocks t.made b.number (suc b.slot.place) (offset t.made b.number + suc b.slot.place) b.instance
    s.block b.at b.block refl) there' in
    let up = rounded_up s.block.length.0 in
    let up' = rounded_up a.length.0 in
    let here : IsHere a = is_here t m (offset t.made c.number + 0) a sound own there' in
    let same = same_bytes m s.block a a.length.0 (big_bytes 4 x.0) sound.bytes
    (slot_there t m ih n s.block sound own s.found) here gap (omega (arith, up)) (omega (arith, up')) in
    let good : (y : DataSpace) → read_fault y a.address.0 a.length.0 One ≡ None = λ y.
    reads y a.address.0 a.length.0 One here.from (omega (arith, here.to, up')) (omega arith) in
    ap (λ (y : DataSpace). read_bytes y a.address.0 a.length.0) s.wrote
    ∙ rw (good (written m s.block.address.0 (big_bytes 4 x.0)), good m) (ap (λ (ys : List ℕ). Ok ys) same)

pub slots_are_own : SlotsAreOwn
slots_are_own = record {
  at_first = at_first;
  by_open = by_open;
  by_close = by_close;
  by_release = by_release;
  by_slot = by_slot;
  by_arguments = by_arguments;
  there = there;
  stored = stored;
  others = others;
  arguments = arguments;
}
