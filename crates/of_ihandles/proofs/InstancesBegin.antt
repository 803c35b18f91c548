-- The law `instances_begin`.
use Rattle.std.proofs.Common.{◌≡◌, ◌≢◌, ℕ, zero, suc, ◌+◌, ◌^◌, ◌<◌, ◌≤◌, Bool, true, false, List, []}
use Rattle.std.proofs.Common.{◌∷◌}
use Rattle.std.proofs.Common.{◌++◌, length, get_or, take, drop, Option, Some, None, Result, Ok, Err, refl, sym, ap}
use Rattle.std.proofs.Common.{◌∙◌}
use Rattle.std.proofs.Common.{arith, nat_le, length-append, length-drop}
use Rattle.std.specs.List.{slice_get}
use Rattle.std.proofs.lemmas.List.{length-take}
use Rattle.byteorder.specs.Endian.{big_bytes, big_number}
use Rattle.byteorder.specs.Numbers.{big_number-reads_back}
use Rattle.of_cells.specs.declared.cells.Cell.{Cell}
use Rattle.of_memory.specs.Access.{read_bytes, read_fault}
use Rattle.of_memory.specs.Blocks.{rounded}
use Rattle.of_memory.specs.DataSpace.{DataSpace, IsSound, bytes_from, splice, written}
use Rattle.of_memory.specs.Regions.{byte_count, place_of}
use Rattle.of_memory.specs.declared.width.Width.TheVariants.{One}
use Rattle.of_nodes.specs.declared.phandles.Phandle.{Phandle}
use Rattle.of_nodes.specs.declared.properties.Span.{Span}
use Rattle.of_ihandles.specs.declared.instance_fault.InstanceFault.{InstanceFault}
use Rattle.of_ihandles.specs.declared.instances.Instance.{Instance}
use Rattle.of_ihandles.specs.declared.slots.Slot.{Slot}
use Rattle.of_ihandles.specs.declared.slots.Template.{Template}
use Rattle.of_ihandles.specs.declared.slots.Template.TheVariants.{Value, Zeros}
use Rattle.of_ihandles.specs.Beginnings.{Begins, InstancesBegin}
use Rattle.of_ihandles.specs.Blocks.{begun, blocks_taken, cell_at}
use Rattle.of_ihandles.specs.Instances.{argument_span, block_in, block_or, cell_in, found, ihandle_of, instance_at}
use Rattle.of_ihandles.specs.Instances.{lengths_of, most_instances}
use Rattle.of_ihandles.specs.Instances.{of_instance, opened_at, opened_with, slot_block, slot_read}
use Rattle.of_ihandles.specs.OwnSlots.{HasSlot, HasSlots}
use Rattle.of_ihandles.specs.OwnedBlocks.{AreApart, OwnBlocks, live_blocks}
use Rattle.of_ihandles.specs.Slots.{is_same, slots_of, template_bytes}
use Rattle.of_ihandles.specs.Table.{InstanceTable}
use Rattle.of_ihandles.proofs.BlockAccess.{reads, rounded_up}
use Rattle.of_ihandles.proofs.IhandlesAreNew.{found_new, push_last}
use Rattle.of_ihandles.proofs.OwnedByCalls.{apart, by_open as owned_by_open}
use Rattle.of_ihandles.proofs.SlotsAreOwn.{IsHere, at_place, bytes_back, in_blocks, is_here}
use Rattle.of_ihandles.proofs.SlotsAreOwn.{offset, place_in_region, same_bytes, same_package, there}
use Rattle.of_ihandles.proofs.SlotsByCalls.{by_open, lengths, taken_lengths}

-- ---- writes keep how many bytes there are

splice_back : (l ys : List ℕ) (i : ℕ) → i + length ys < byte_count → length (splice l i ys) ≡ byte_count
    → length l ≡ byte_count
splice_back l ys i short e =
    let whole : length (take i l ++ (ys ++ drop (i + length ys) l))
    ≡ length (take i l) + (length ys + length (drop (i + length ys) l)) =
    length-append (take i l) (ys ++ drop (i + length ys) l)
    ∙ ap (λ n. length (take i l) + n) (length-append ys (drop (i + length ys) l)) in
    omega (arith, whole, e, short, length-take i l, length-drop (i + length ys) l)

written_back : (m : DataSpace) (b : Span) (ys : List ℕ) → IsHere b → length ys ≤ rounded b.length.0
    → length (written m b.address.0 ys).bytes ≡ byte_count → length m.bytes ≡ byte_count
written_back m b ys here few e =
    let p = place_in_region b.address.0 here.from (omega (arith, here.to)) in
    splice_back m.bytes ys (place_of b.address.0) (omega (arith, p, here.to, few)) e

pub template_short : (t : Template) (b : Span) → length (template_bytes t) ≤ rounded b.length.0
template_short (Value x) b = let up = rounded_up b.length.0 in omega (arith, up)
template_short (Zeros n) b = omega arith

abbrev AllHere : List Span → Type 0
AllHere bs = (j : ℕ) (c : Span) → slice_get bs j ≡ Some c → IsHere c

abbrev AllApart : List Span → Type 0
AllApart bs = (i j : ℕ) (b c : Span) → i ≢ j → slice_get bs i ≡ Some b → slice_get bs j ≡ Some c → AreApart b c

begun_back : (m : DataSpace) (bs : List Span) (ss : List Slot) → AllHere bs
    → length (begun m bs ss).bytes ≡ byte_count → length m.bytes ≡ byte_count
begun_back m bs [] here e = e
begun_back m [] (s ∷ ss) here e = e
begun_back m (b ∷ bs) (s ∷ ss) here e =
    written_back m b (template_bytes s.template) (here 0 b refl) (template_short s.template b)
    (begun_back (written m b.address.0 (template_bytes s.template)) bs ss (λ j. here (suc j)) e)

-- what stands apart from all is kept
begun_keeps : (m : DataSpace) (bs : List Span) (ss : List Slot) (c : Span) (n : ℕ) → IsHere c
    → n ≤ rounded c.length.0 → AllHere bs → ((j : ℕ) (b : Span) → slice_get bs j ≡ Some b → AreApart b c)
    → length (begun m bs ss).bytes ≡ byte_count
    → bytes_from (begun m bs ss) c.address.0 n ≡ bytes_from m c.address.0 n
begun_keeps m bs [] c n here short all gaps e = refl
begun_keeps m [] (s ∷ ss) c n here short all gaps e = refl
begun_keeps m (b ∷ bs) (s ∷ ss) c n here short all gaps e =
    let ys = template_bytes s.template in
    let len = begun_back m (b ∷ bs) (s ∷ ss) all e in
    begun_keeps (written m b.address.0 ys) bs ss c n here short (λ j. all (suc j)) (λ j. gaps (suc j)) e
    ∙ same_bytes m b c n ys len (all 0 b refl) here (gaps 0 b refl) (template_short s.template b) short

-- each block begins as its slot's template
begun_reads : (m : DataSpace) (bs : List Span) (ss : List Slot) (j : ℕ) (c : Span) (s : Slot) (x : Cell)
    → slice_get bs j ≡ Some c → slice_get ss j ≡ Some s → s.template ≡ Value x → x.0 < 2 ^ 32 → AllHere bs
    → AllApart bs
    → length (begun m bs ss).bytes ≡ byte_count → cell_at (begun m bs ss) c ≡ x
begun_reads m [] ss j c s x e f v small here gaps len = absurd cc
begun_reads m (b ∷ bs) [] j c s x e f v small here gaps len = absurd cc
begun_reads m (b ∷ bs) (r ∷ ss) zero c s x e f v small here gaps len =
    let same : b ≡ c = cc in
    let slot : r ≡ s = cc in
    let bytes : template_bytes r.template ≡ big_bytes 4 x.0 =
    ap template_bytes (ap (λ (y : Slot). y.template) slot ∙ v) in
    let up = rounded_up b.length.0 in
    let few : length (big_bytes 4 x.0) ≤ rounded b.length.0 = omega (arith, up) in
    let before = begun_back m (b ∷ bs) (r ∷ ss) here len in
    let kept = begun_keeps (written m b.address.0 (template_bytes r.template)) bs ss b 4 (here 0 b refl)
    (omega (arith, up)) (λ k. here (suc k)) (λ k d g. gaps (suc k) 0 d b (omega arith) g refl) len in
    let back : bytes_from (written m b.address.0 (big_bytes 4 x.0)) b.address.0 4 ≡ big_bytes 4 x.0 =
    bytes_back m b (big_bytes 4 x.0) before (here 0 b refl) few in
    let now = kept ∙ ap (λ ys. bytes_from (written m b.address.0 ys) b.address.0 4) bytes ∙ back in
    let number : big_number 4 (big_bytes 4 x.0) ≡ x.0 = big_number-reads_back 4 x.0 [] (omega (arith, small)) in
    ap (cell_at (begun m (b ∷ bs) (r ∷ ss))) (sym same)
    ∙ ap (λ (y : ℕ). let z : Cell = record { 0 = y } in z) (ap (big_number 4) now ∙ number)
begun_reads m (b ∷ bs) (r ∷ ss) (suc j) c s x e f v small here gaps len =
    begun_reads (written m b.address.0 (template_bytes r.template)) bs ss j c s x e f v small (λ k. here (suc k))
    (λ k l d g o. gaps (suc k) (suc l) d g (λ q. o (omega (arith, q)))) len

-- ---- the law

block_or_is : (o : Option Span) (b : Span) → block_or o ≡ Ok b → o ≡ Some b
block_or_is None b e = absurd cc
block_or_is (Some c) b e = let same : c ≡ b = cc in ap (λ (y : Span). Some y) same

block_is : (t : InstanceTable) (ih : Cell) (n : ℕ) (s : Slot) (ph : Phandle) (parent : Cell) (b : Span)
    (bs : List Span) (c : Span) → found t ih ≡ Some (instance_at ph parent b bs) → slice_get t.slots n ≡ Some s
    → is_same s.«package» ph ≡ true → slot_block t ih n ≡ Ok c → slice_get bs s.place ≡ Some c
block_is t ih n s ph parent b bs c f e h k =
    let by_instance : block_in (Some s) (instance_at ph parent b bs) ≡ Ok c =
    sym (ap (λ o. of_instance o (block_in (slice_get t.slots n))) f
    ∙ ap (λ o. block_in o (instance_at ph parent b bs)) e) ∙ k in
    let by_package = rw h at by_instance in
    block_or_is (slice_get bs s.place) c by_package

begins : (t : InstanceTable) (taken : DataSpace) (ph : Phandle) (parent : Cell) (arguments : List ℕ) (b : Span)
    (bs : List Span) (after : InstanceTable) (left : DataSpace) (ih : Cell)
    → after ≡ record t { made = t.made ++ Some (instance_at ph parent b bs) ∷ [] }
    → left ≡ begun (written taken b.address.0 arguments) bs (slots_of ph t.slots)
    → found after ih ≡ Some (instance_at ph parent b bs)
    → b.length.0 ≡ length arguments
    → IsSound left → OwnBlocks after left → HasSlots t → HasSlots after → Begins after left ph arguments ih
begins t taken ph parent arguments b bs after left ih is now new size sound own had has =
    record { text = text; values = values }
  where
    at : get_or after.made (length t.made) None ≡ Some (instance_at ph parent b bs)
    at =
        ap (λ (u : InstanceTable). get_or u.made (length t.made) None) is
        ∙ push_last t.made (Some (instance_at ph parent b bs))

    place : (j : ℕ) (c : Span) → slice_get (b ∷ bs) j ≡ Some c
        → slice_get (live_blocks after.made) (offset after.made (length t.made) + j) ≡ Some c
    place j c e =
        in_blocks after.made (length t.made) j (offset after.made (length t.made) + j) (instance_at ph parent b bs) c
        at e refl

    here : AllHere (b ∷ bs)
    here j c e = is_here after left (offset after.made (length t.made) + j) c sound own (place j c e)

    gaps : AllApart (b ∷ bs)
    gaps i j c d other e f =
        apart after left (offset after.made (length t.made) + i) (offset after.made (length t.made) + j) c d sound own
        (λ same. other (omega (arith, same))) (place i c e) (place j d f)

    len : length (begun (written taken b.address.0 arguments) bs (slots_of ph t.slots)).bytes ≡ byte_count
    len = ap (λ (y : DataSpace). length y.bytes) (sym now) ∙ sound.bytes

    text : (a : Span) → argument_span after ih ≡ Ok a → read_bytes left a.address.0 a.length.0 ≡ Ok arguments
    text a e =
        let span_is : ◌≡◌ {A = Result Span InstanceFault} (Ok b) (Ok a) =
        sym (ap (λ (o : Option Instance). of_instance o
        (λ i. let r : Result Span InstanceFault = Ok i.arguments in r)) new)
        ∙ e in
        let same : b ≡ a = cc in
        let up = rounded_up b.length.0 in
        let h : IsHere b = here 0 b refl in
        let few : length arguments ≤ rounded b.length.0 = omega (arith, up, size) in
        let before = begun_back (written taken b.address.0 arguments) bs (slots_of ph t.slots)
        (λ j. here (suc j)) len in
        let kept = begun_keeps (written taken b.address.0 arguments) bs (slots_of ph t.slots) b (length arguments) h
        few (λ j. here (suc j)) (λ j c f. gaps (suc j) 0 c b (omega arith) f refl) len in
        let back = bytes_back taken b arguments (written_back taken b arguments h few before) h few in
        let bytes : bytes_from left b.address.0 (length arguments) ≡ arguments =
        ap (λ (y : DataSpace). bytes_from y b.address.0 (length arguments)) now ∙ kept ∙ back in
        let open_to : read_fault left b.address.0 (length arguments) One ≡ None =
        reads left b.address.0 (length arguments) One h.from (omega (arith, h.to, few)) (omega arith) in
        let read : read_bytes left b.address.0 (length arguments) ≡ Ok arguments =
        rw open_to (ap (λ (ys : List ℕ). Ok ys) bytes) in
        ap (λ (y : Span). read_bytes left y.address.0 y.length.0) (sym same)
        ∙ ap (λ n. read_bytes left b.address.0 n) size ∙ read

    values : (n : ℕ) (s : Slot) (x : Cell) → slice_get after.slots n ≡ Some s → is_same s.«package» ph ≡ true
        → s.template ≡ Value x → x.0 < 2 ^ 32 → slot_read left after ih n ≡ Ok x
    values n s x e h v small =
        let e' : slice_get t.slots n ≡ Some s = ap (λ (u : InstanceTable). slice_get u.slots n) (sym is) ∙ e in
        let number : s.place ≡ length (slots_of ph (take n t.slots)) =
        had.numbered n s e'
        ∙ ap (λ q. length (slots_of q (take n t.slots))) (same_package s.«package» ph h) in
        let among : slice_get (slots_of ph t.slots) s.place ≡ Some s =
        ap (λ k. slice_get (slots_of ph t.slots) k) number ∙ at_place t.slots n s ph e' h in
        let slot : HasSlot after ih n s = there after ih (instance_at ph parent b bs) n s has new e h in
        let block : slice_get bs s.place ≡ Some slot.block =
        block_is after ih n s ph parent b bs slot.block new e h slot.found in
        let read = begun_reads (written taken b.address.0 arguments) bs (slots_of ph t.slots) s.place slot.block s x
        block among v small (λ j. here (suc j))
        (λ i j c d other. gaps (suc i) (suc j) c d (λ q. other (omega (arith, q)))) len in
        ap (cell_in left) slot.found
        ∙ ap (λ (y : Cell). Ok y) (ap (λ (y : DataSpace). cell_at y slot.block) now ∙ read)

pub instances_begin : InstancesBegin
instances_begin t after m left ph parent ih arguments sound own had e =
    go (nat_le most_instances (length t.made)) refl
  where
    with_list : (bs : List Span) (taken : DataSpace)
        → lengths bs ≡ lengths_of (record { 0 = length arguments }) (slots_of ph t.slots)
        → opened_at t taken ph parent arguments bs ≡ Ok (ih, (after, left)) → Begins after left ph arguments ih
    with_list [] taken f h = absurd cc
    with_list (b ∷ bs) taken f h =
        let both : ◌≡◌ {A = Cell × (InstanceTable × DataSpace)} (
          ihandle_of (length t.made),
          (
            record t { made = t.made ++ Some (instance_at ph parent b bs) ∷ [] },
            begun (written taken b.address.0 arguments) bs (slots_of ph t.slots),
          ),
        ) (ih, (after, left)) = cc in
        let handle : ihandle_of (length t.made) ≡ ih = ap (λ (p : Cell × (InstanceTable × DataSpace)). p.0) both in
        let same : record t { made = t.made ++ Some (instance_at ph parent b bs) ∷ [] } ≡ after =
        ap (λ (p : Cell × (InstanceTable × DataSpace)). p.1.0) both in
        let space : begun (written taken b.address.0 arguments) bs (slots_of ph t.slots) ≡ left =
        ap (λ (p : Cell × (InstanceTable × DataSpace)). p.1.1) both in
        let new : found after ih ≡ Some (instance_at ph parent b bs) =
        rw (← same, ← handle) (found_new t (instance_at ph parent b bs)) in
        let size : b.length ≡ record { 0 = length arguments } = cc in
        begins t taken ph parent arguments b bs after left ih (sym same) (sym space) new
        (ap (λ (c : Cell). c.0) size) sound (owned_by_open t after m left ph parent ih arguments own e) had
        (by_open t after m left ph parent ih arguments had e)

    taken : (r : Result (List Span × DataSpace) InstanceFault)
        → blocks_taken m (lengths_of (record { 0 = length arguments }) (slots_of ph t.slots)) ≡ r
        → opened_with t ph parent arguments r ≡ Ok (ih, (after, left)) → Begins after left ph arguments ih
    taken (Err fault) f h = absurd cc
    taken (Ok x) f h =
        with_list x.0 x.1 (taken_lengths m x.1
        (lengths_of (record { 0 = length arguments }) (slots_of ph t.slots)) x.0 f) h

    go : (b : Bool) → nat_le most_instances (length t.made) ≡ b → Begins after left ph arguments ih
    go true h = let no = rw h at e in absurd cc
    go false h =
        let e' = rw h at e in
        taken (blocks_taken m (lengths_of (record { 0 = length arguments }) (slots_of ph t.slots))) refl e'
