-- The law `instances_keep_the_space`: these calls take and give back blocks of the instance region, and write there.
use Rattle.std.proofs.Common.{◌≡◌, ℕ, zero, suc, ◌+◌, ◌/◌, ◌%◌, ◌^◌, ◌<◌, ◌≤◌, nat_le, Bool, true, false, List, []}
use Rattle.std.proofs.Common.{◌∷◌, ◌++◌, length, map, get_or, replicate, Option, Some, None, Result, Ok, Err, refl, ap}
use Rattle.std.proofs.Common.{◌∙◌, arith}
use Rattle.std.specs.Int.{byte_at, bytes_high_first}
use Rattle.std.specs.Prelude.{count_by, set}
use Rattle.std.proofs.lemmas.List.Elements.{All-cons, All-nil}
use Rattle.byteorder.specs.Endian.{big_bytes}
use Rattle.of_cells.specs.declared.cells.Cell.{Cell}
use Rattle.of_memory.specs.Access.{bytes_written, unless, write_fault}
use Rattle.of_memory.specs.Blocks.{rounded}
use Rattle.of_memory.specs.BlockCalls.{instance_given, instance_taken, instances_taken}
use Rattle.of_memory.specs.DataSpace.{DataSpace, IsSound, written}
use Rattle.of_memory.specs.ImageRegion.{ImagesChangeByImagesAlone}
use Rattle.of_memory.specs.PropertyRegion.{PropertiesChangeByPutsAlone}
use Rattle.of_memory.specs.SoundChanges.{AreBytes, ChangesStaySound}
use Rattle.of_memory.specs.declared.fault.MemFault.{MemFault}
use Rattle.of_memory.specs.declared.width.Width.TheVariants.{One}
use Rattle.of_nodes.specs.declared.phandles.Phandle.{Phandle}
use Rattle.of_nodes.specs.declared.properties.Span.{Span}
use Rattle.of_ihandles.specs.declared.instance_fault.InstanceFault.{InstanceFault}
use Rattle.of_ihandles.specs.declared.instances.Instance.{Instance}
use Rattle.of_ihandles.specs.declared.slots.Slot.{Slot}
use Rattle.of_ihandles.specs.declared.slots.Template.{Template}
use Rattle.of_ihandles.specs.declared.slots.Template.TheVariants.{Value, Zeros}
use Rattle.of_ihandles.specs.Blocks.{all_begun, all_left, begun, blocks_taken, copied_to, copy_taken, given, given_all}
use Rattle.of_ihandles.specs.Blocks.{left, one_left, span, spans}
use Rattle.of_ihandles.specs.Instances.{arguments_at, arguments_by, arguments_left, arguments_set, closed, closed_at}
use Rattle.of_ihandles.specs.Instances.{closed_by, ihandle_of, instance_at, is_open, lengths_of, most_instances}
use Rattle.of_ihandles.specs.Instances.{number_of, opened, opened_at, opened_with, release_left, released, slot_block}
use Rattle.of_ihandles.specs.Instances.{slot_stored, slotted, slotted_with, stored_in, unit_of, with_blocks}
use Rattle.of_ihandles.specs.OwnedBlocks.{OwnBlocks}
use Rattle.of_ihandles.specs.Slots.{size_of, slots_of, template_bytes, with_slot}
use Rattle.of_ihandles.specs.SpaceKept.{InstancesKeepTheSpace, Keeps}
use Rattle.of_ihandles.specs.Table.{InstanceTable}
use Rattle.of_ihandles.proofs.BlockAccess.{rounded_up, writes}
use Rattle.of_ihandles.proofs.BlocksTaken.{First, first_taken, taken_in_region}
use Rattle.of_ihandles.proofs.InstancesBegin.{template_short}
use Rattle.of_ihandles.proofs.Opening.{first_length}
use Rattle.of_ihandles.proofs.OwnedByCalls.{left_is}
use Rattle.of_ihandles.proofs.SlotsAreOwn.{IsHere, IsSlot, in_blocks, is_here, is_slot, offset}

-- what the laws of of_memory say
pub record Given : Type 0 where
  pub sound : ChangesStaySound
  pub images : ImagesChangeByImagesAlone
  pub properties : PropertiesChangeByPutsAlone

same : (m : DataSpace) → IsSound m → Keeps m m
same m sound = record {
  sound = sound;
  images = (refl, refl);
  properties = record { reads = λ a n from to. refl; ends = refl };
}

then : (m between after : DataSpace) → Keeps m between → Keeps between after → Keeps m after
then m between after f g = record {
  sound = g.sound;
  images = (g.images.0 ∙ f.images.0, g.images.1 ∙ f.images.1);
  properties = record {
    reads = λ a n from to. g.properties.reads a n from to ∙ f.properties.reads a n from to;
    ends = g.properties.ends ∙ f.properties.ends;
  };
}

-- ---- bytes that are written to a block

template_small : Given → (t : Template) → AreBytes (template_bytes t)
template_small g (Value x) = g.sound.number 4 x.0
template_small g (Zeros n) = All-nil (λ b. b < 256)

wrote : (g : Given) (m : DataSpace) (b : Span) (ys : List ℕ) → IsSound m → IsHere b → AreBytes ys
    → length ys ≤ rounded b.length.0 → Keeps m (written m b.address.0 ys)
wrote g m b ys sound here small few =
    let a = b.address.0 in
    let after = written m a ys in
    let good : write_fault m a (length ys) One ≡ None =
    writes m a (length ys) One here.from (omega (arith, here.to, few)) (omega arith) in
    let e : bytes_written m a ys ≡ Ok after = ap (λ (f : Option MemFault). unless f after) good in
    record {
      sound = g.sound.by_bytes m after a ys sound small e;
      images = g.images.by_bytes m after a ys sound e;
      properties = g.properties.by_bytes m after a ys sound e;
    }

-- each of several blocks lies in the region
abbrev AreHere : List Span → Type 0
AreHere [] = Unit {0}
AreHere (b ∷ bs) = IsHere b × AreHere bs

begin : (g : Given) (m : DataSpace) (bs : List Span) (ss : List Slot) → IsSound m → AreHere bs
    → Keeps m (begun m bs ss)
begin g m bs [] sound here = same m sound
begin g m [] (s ∷ ss) sound here = same m sound
begin g m (b ∷ bs) (s ∷ ss) sound here =
    let between = written m b.address.0 (template_bytes s.template) in
    let one = wrote g m b (template_bytes s.template) sound here.0 (template_small g s.template)
    (template_short s.template b) in
    then m between (begun between bs ss) one (begin g between bs ss one.sound here.1)

begin_all : (g : Given) (m : DataSpace) (bs : List Span) (t : Template) → IsSound m → AreHere bs
    → Keeps m (all_begun m bs t)
begin_all g m [] t sound here = same m sound
begin_all g m (b ∷ bs) t sound here =
    let between = written m b.address.0 (template_bytes t) in
    let one = wrote g m b (template_bytes t) sound here.0 (template_small g t) (template_short t b) in
    then m between (all_begun between bs t) one (begin_all g between bs t one.sound here.1)

-- ---- blocks that are taken

one_here : (m after : DataSpace) (n : Cell) (a : ℕ) → instance_taken m n.0 ≡ Ok (a, after)
    → IsHere (span (record { 0 = a }) n)
one_here m after n a e = let i = taken_in_region m after n a e in record { from = i.from; to = i.to }

all_here : (m after : DataSpace) (ns as' : List Cell) → instances_taken m ns ≡ Ok (as', after) → AreHere (spans as' ns)
all_here m after [] [] e = tt
all_here m after [] (a ∷ as') e = tt
all_here m after (n ∷ ns) as' e =
    let s : First m after n ns as' = first_taken m after n ns as' e in
    rw s.all (one_here m s.left n s.address s.first, all_here s.left after ns s.others s.rest)

-- what taking blocks leaves, and where they stand
record AreTaken (m after : DataSpace) (bs : List Span) : Type 0 where
  keeps : Keeps m after
  here : AreHere bs

all_taken : (g : Given) (m after : DataSpace) (ns : List Cell) (bs : List Span) → IsSound m
    → blocks_taken m ns ≡ Ok (bs, after) → AreTaken m after bs
all_taken g m after ns bs sound e = go (instances_taken m ns) refl e
  where
    go : (r : Result (List Cell × DataSpace) MemFault) → instances_taken m ns ≡ r → all_left ns r ≡ Ok (bs, after)
        → AreTaken m after bs
    go (Err fault) f h = absurd cc
    go (Ok x) f h =
        let both : ◌≡◌ {A = List Span × DataSpace} (spans x.0 ns, x.1) (bs, after) = cc in
        let list : spans x.0 ns ≡ bs = ap (λ (p : List Span × DataSpace). p.0) both in
        let space : x.1 ≡ after = ap (λ (p : List Span × DataSpace). p.1) both in
        rw (← list, ← space) (record {
          keeps = record {
            sound = g.sound.by_instance_takes m x.1 ns x.0 sound f;
            images = g.images.by_instance_takes m x.1 ns x.0 sound f;
            properties = g.properties.by_instance_takes m x.1 ns x.0 sound f;
          };
          here = all_here m x.1 ns x.0 f;
        })

-- a block with a copy
copied : (g : Given) (m : DataSpace) (ys : List ℕ) (x : Span × DataSpace) → IsSound m → AreBytes ys
    → copy_taken m ys ≡ Ok x → Keeps m x.1
copied g m ys x sound small e = go (instance_taken m (length ys)) refl e
  where
    n : Cell
    n = record { 0 = length ys }

    go : (r : Result (ℕ × DataSpace) MemFault) → instance_taken m n.0 ≡ r → copied_to ys (one_left n r) ≡ Ok x
        → Keeps m x.1
    go (Err fault) f h = absurd cc
    go (Ok y) f h =
        let b : Span = span (record { 0 = y.0 }) n in
        let both : ◌≡◌ {A = Span × DataSpace} (b, written y.1 b.address.0 ys) x = cc in
        let space : written y.1 b.address.0 ys ≡ x.1 = ap (λ (p : Span × DataSpace). p.1) both in
        let taken : Keeps m y.1 = record {
          sound = g.sound.by_instance_take m y.1 n.0 y.0 sound f;
          images = g.images.by_instance_take m y.1 n.0 y.0 sound f;
          properties = g.properties.by_instance_take m y.1 n.0 y.0 sound f;
        } in
        let up = rounded_up (length ys) in
        let some : length ys ≤ rounded b.length.0 = omega (arith, up) in
        rw (← space) (then m y.1 (written y.1 b.address.0 ys) taken
        (wrote g y.1 b ys taken.sound (one_here m y.1 n y.0 f) small some))

-- ---- blocks that are given back

give : (g : Given) (m : DataSpace) (b : Span) → IsSound m → Keeps m (given m b)
give g m b sound = go (instance_given m b.address.0 b.length.0) refl
  where
    go : (r : Result DataSpace MemFault) → instance_given m b.address.0 b.length.0 ≡ r → Keeps m (left m r)
    go (Err fault) f = same m sound
    go (Ok after) f = record {
      sound = g.sound.by_instance_give m after b.address.0 b.length.0 sound f;
      images = g.images.by_instance_give m after b.address.0 b.length.0 sound f;
      properties = g.properties.by_instance_give m after b.address.0 b.length.0 f;
    }

give_all : (g : Given) (m : DataSpace) (bs : List Span) → IsSound m → Keeps m (given_all m bs)
give_all g m [] sound = same m sound
give_all g m (b ∷ bs) sound =
    let one = give g m b sound in
    then m (given m b) (given_all (given m b) bs) one (give_all g (given m b) bs one.sound)

-- ---- the calls

by_open : (g : Given) (t after : InstanceTable) (m left : DataSpace) (ph : Phandle) (parent ih : Cell)
    (arguments : List ℕ) → IsSound m → AreBytes arguments → opened t m ph parent arguments ≡ Ok (ih, (after, left))
    → Keeps m left
by_open g t after m left ph parent ih arguments sound small e = go (nat_le most_instances (length t.made)) refl
  where
    ns : List Cell
    ns = lengths_of (record { 0 = length arguments }) (slots_of ph t.slots)

    with_list : (bs : List Span) (taken : DataSpace) → blocks_taken m ns ≡ Ok (bs, taken)
        → opened_at t taken ph parent arguments bs ≡ Ok (ih, (after, left)) → Keeps m left
    with_list [] taken f h = absurd cc
    with_list (b ∷ bs) taken f h =
        let space = (left_is (ihandle_of (length t.made)) ih
        (record t { made = t.made ++ Some (instance_at ph parent b bs) ∷ [] }) after
        (begun (written taken b.address.0 arguments) bs (slots_of ph t.slots)) left h).1 in
        let all = all_taken g m taken ns (b ∷ bs) sound f in
        let long = ap (λ (c : Cell). c.0)
        (first_length m taken (record { 0 = length arguments })
        (map (λ (s : Slot). size_of s.template) (slots_of ph t.slots)) b bs f) in
        let up = rounded_up b.length.0 in
        let copy = written taken b.address.0 arguments in
        let one = wrote g taken b arguments all.keeps.sound all.here.0 small (omega (arith, up, long)) in
        rw (← space) (then m taken (begun copy bs (slots_of ph t.slots)) all.keeps
        (then taken copy (begun copy bs (slots_of ph t.slots)) one
        (begin g copy bs (slots_of ph t.slots) one.sound all.here.1)))

    taken : (r : Result (List Span × DataSpace) InstanceFault) → blocks_taken m ns ≡ r
        → opened_with t ph parent arguments r ≡ Ok (ih, (after, left)) → Keeps m left
    taken (Err fault) f h = absurd cc
    taken (Ok x) f h = with_list x.0 x.1 f h

    go : (b : Bool) → nat_le most_instances (length t.made) ≡ b → Keeps m left
    go true h = let no = rw h at e in absurd cc
    go false h = let e' = rw h at e in taken (blocks_taken m ns) refl e'

by_close : (g : Given) (t after : InstanceTable) (m left : DataSpace) (ih : Cell)
    → IsSound m → closed t m ih ≡ Ok (tt, (after, left)) → Keeps m left
by_close g t after m left ih sound e = numbered (number_of (length t.made) ih) e
  where
    at : (k : ℕ) (o : Option Instance) → closed_at t m k o ≡ Ok (tt, (after, left)) → Keeps m left
    at k None h = absurd cc
    at k (Some i) h =
        let space = (left_is tt tt (record t { made = set t.made k None }) after
        (given_all (given m i.arguments) i.slots) left h).1 in
        rw (← space) (give_all g m (i.arguments ∷ i.slots) sound)

    numbered : (o : Option ℕ) → closed_by t m o ≡ Ok (tt, (after, left)) → Keeps m left
    numbered None h = absurd cc
    numbered (Some k) h = at k (get_or t.made k None) h

by_release : (g : Given) (t after : InstanceTable) (m left : DataSpace) (ih : Cell)
    → IsSound m → released t m ih ≡ (after, left) → Keeps m left
by_release g t after m left ih sound e = go (closed t m ih) refl e
  where
    go : (r : Result (Unit {0} × (InstanceTable × DataSpace)) InstanceFault) → closed t m ih ≡ r
        → release_left t m r ≡ (after, left) → Keeps m left
    go (Err fault) f h =
        let space : m ≡ left = ap (λ (p : InstanceTable × DataSpace). p.1) h in rw (← space) (same m sound)
    go (Ok x) f h =
        let space : x.1.1 ≡ left = ap (λ (p : InstanceTable × DataSpace). p.1) h in
        rw (← space) (by_close g t x.1.0 m x.1.1 ih sound f)

by_arguments : (g : Given) (t after : InstanceTable) (m left : DataSpace) (ih : Cell) (arguments : List ℕ)
    (unit : List Cell) → IsSound m → AreBytes arguments → arguments_set t m ih arguments unit ≡ Ok (tt, (after, left))
    → Keeps m left
by_arguments g t after m left ih arguments unit sound small e = numbered (number_of (length t.made) ih) e
  where
    with_copy : (k : ℕ) (i : Instance) (r : Result (Span × DataSpace) InstanceFault) → copy_taken m arguments ≡ r
        → arguments_left t k i unit r ≡ Ok (tt, (after, left)) → Keeps m left
    with_copy k i (Err fault) f h = absurd cc
    with_copy k i (Ok x) f h =
        let other : Instance = record i { arguments = x.0; unit = unit_of unit } in
        let space = (left_is tt tt (record t { made = set t.made k (Some other) }) after
        (given x.1 i.arguments) left h).1 in
        let one = copied g m arguments x sound small f in
        rw (← space) (then m x.1 (given x.1 i.arguments) one (give g x.1 i.arguments one.sound))

    at : (k : ℕ) (o : Option Instance) → arguments_at t m arguments unit k o ≡ Ok (tt, (after, left)) → Keeps m left
    at k None h = absurd cc
    at k (Some i) h = with_copy k i (copy_taken m arguments) refl h

    numbered : (o : Option ℕ) → arguments_by t m arguments unit o ≡ Ok (tt, (after, left)) → Keeps m left
    numbered None h = absurd cc
    numbered (Some k) h = at k (get_or t.made k None) h

by_slot : (g : Given) (t after : InstanceTable) (m left : DataSpace) (ph : Phandle) (template : Template) (n : ℕ)
    → IsSound m → slotted t m ph template ≡ Ok (n, (after, left)) → Keeps m left
by_slot g t after m left ph template n sound e = taken (blocks_taken m ns) refl e
  where
    ns : List Cell
    ns = replicate (count_by (is_open ph) t.made) (size_of template)

    taken : (r : Result (List Span × DataSpace) InstanceFault) → blocks_taken m ns ≡ r
        → slotted_with t ph template r ≡ Ok (n, (after, left)) → Keeps m left
    taken (Err fault) f h = absurd cc
    taken (Ok x) f h =
        let space = (left_is (length t.slots) n
        (record { made = with_blocks ph t.made x.0; slots = with_slot t.slots ph template }) after
        (all_begun x.1 x.0 template) left h).1 in
        let all = all_taken g m x.1 ns x.0 sound f in
        rw (← space) (then m x.1 (all_begun x.1 x.0 template) all.keeps
        (begin_all g x.1 x.0 template all.keeps.sound all.here))

by_store : (g : Given) (t : InstanceTable) (m left : DataSpace) (ih : Cell) (n : ℕ) (x : Cell)
    → IsSound m → OwnBlocks t m → slot_stored m t ih n x ≡ Ok (tt, left) → Keeps m left
by_store g t m left ih n x sound own e = go (slot_block t ih n) refl e
  where
    go : (r : Result Span InstanceFault) → slot_block t ih n ≡ r → stored_in m x r ≡ Ok (tt, left) → Keeps m left
    go (Err fault) f h = absurd cc
    go (Ok b) f h =
        let both : ◌≡◌ {A = Unit {0} × DataSpace} (tt, written m b.address.0 (big_bytes 4 x.0)) (tt, left) = cc in
        let space : written m b.address.0 (big_bytes 4 x.0) ≡ left = ap (λ (p : Unit {0} × DataSpace). p.1) both in
        let s : IsSlot t ih n b = is_slot t ih n b f in
        let k = offset t.made s.number + suc s.slot.place in
        let there = in_blocks t.made s.number (suc s.slot.place) k s.instance b s.at s.block refl in
        let up = rounded_up b.length.0 in
        let few : length (big_bytes 4 x.0) ≤ rounded b.length.0 = omega (arith, up) in
        rw (← space) (wrote g m b (big_bytes 4 x.0) sound (is_here t m k b sound own there) (g.sound.number 4 x.0) few)

pub instances_keep_the_space : Given → InstancesKeepTheSpace
instances_keep_the_space g = record {
  by_open = by_open g;
  by_close = by_close g;
  by_release = by_release g;
  by_arguments = by_arguments g;
  by_slot = by_slot g;
  by_store = by_store g;
}
