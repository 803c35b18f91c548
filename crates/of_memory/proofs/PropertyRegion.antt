-- The property region from its first property on changes by puts of properties alone.
use Rattle.std.proofs.Common.{◌≡◌, ℕ, ◌+◌, ◌-◌, ◌/◌, ◌%◌, ◌<◌, ◌≤◌, nat_lt, Bool, true, false}
use Rattle.std.proofs.Math.Nat.{mod-one}
use Rattle.std.proofs.Common.{◌⊎◌, inl, inr, List, [], ◌∷◌, ◌++◌, length, take, drop, replicate, None}
use Rattle.std.proofs.Common.{Result, Ok, Err, refl, ap, sym, ◌∙◌, arith}
use Rattle.std.proofs.lemmas.Bool.{cases_eq, cases_lt, lt-ltb}
use Rattle.std.proofs.lemmas.List.{length-replicate, places, same_lists}
use Rattle.std.specs.List.{remove}
use Rattle.byteorder.specs.Endian.{big_bytes}
use Rattle.of_cells.specs.declared.cells.Cell.{Cell}
use Rattle.of_cells.specs.Numbers.{flag}
use Rattle.of_memory.specs.Access.{IsPlaced, bytes_written, copied, filled, or_fault, read_bytes}
use Rattle.of_memory.specs.Access.{read_fault, read_spread, with_read, write, write_fault}
use Rattle.of_memory.specs.Blocks.{IsFree, rounded, with_block}
use Rattle.of_memory.specs.BlockCalls.{heap_given, heap_taken, instance_given, instance_taken, instances_taken}
use Rattle.of_memory.specs.DataSpace.{AreStacked, DataSpace, IsSound, bytes_from, free_after, is_readable, splice}
use Rattle.of_memory.specs.DataSpace.{written}
use Rattle.of_memory.specs.Growth.{aligned, allotted, appended, image_pushed, moved, with_state}
use Rattle.of_memory.specs.Growth.{with_zeros, without_image, zeros_allotted}
use Rattle.of_memory.specs.PropertyRegion.{KeepsProperties, PropertiesChangeByPutsAlone}
use Rattle.of_memory.specs.Regions.{byte_count, data_limit, data_start, first_property, heap_limit, heap_start}
use Rattle.of_memory.specs.Regions.{image_limit, image_start, instance_limit, instance_start, may_write}
use Rattle.of_memory.specs.Regions.{place_of, property_limit, property_start, region_of, span}
use Rattle.of_memory.specs.Width.{bytes_in}
use Rattle.of_memory.specs.declared.blocks.Block.{Block}
use Rattle.of_memory.specs.declared.fault.MemFault.{MemFault}
use Rattle.of_memory.specs.declared.width.Width.{Width}
use Rattle.of_memory.specs.declared.width.Width.TheVariants.{One}
use Rattle.of_memory.proofs.AllFrom.{all_true}
use Rattle.of_memory.proofs.Ended.{answers_is, appended_is, block_for, heap_given_is, heap_is, instance_given_is}
use Rattle.of_memory.proofs.Ended.{instance_is, moved_is, never_answer, pushed_is, read_length, several_is, unless_is}
use Rattle.of_memory.proofs.Ended.{width_bytes, zeroed_is}
use Rattle.of_memory.proofs.Nothing.{written_none}
use Rattle.of_memory.proofs.Ranges.{both_none, can_write, good_read, ranges_are_placed}

-- ---- reads of the region

byte_open : (m : DataSpace) (a : ℕ) → property_start ≤ a → a < property_limit → is_readable m a ≡ true
byte_open m a from to =
    let two : a / span ≡ 2 = omega arith in
    let region : region_of a ≡ region_of property_start = rw two refl in
    let small : nat_lt (a % span) 131072 ≡ true = lt-ltb (a % span) 131072 (omega arith) in
    rw (region, small) refl

open_range : (m : DataSpace) (a n : ℕ) → first_property ≤ a → a + n ≤ property_limit → read_fault m a n One ≡ None
open_range m a n from to =
    good_read m a n One
    (all_true (is_readable m) a n (λ k l. byte_open m (a + k) (omega (arith, from)) (omega (arith, l, to))))
    (mod-one a)

keeps : (m after : DataSpace)
    → ((a n : ℕ) → first_property ≤ a → a + n ≤ property_limit → bytes_from after a n ≡ bytes_from m a n)
    → after.properties_end ≡ m.properties_end → KeepsProperties m after
keeps m after same end = record {
  reads = λ a n from to.
      rw (open_range after a n from to, open_range m a n from to) (ap Ok (same a n from to));
  ends = end;
}

same_bytes : (m after : DataSpace) → after.bytes ≡ m.bytes → after.properties_end ≡ m.properties_end
    → KeepsProperties m after
same_bytes m after bytes end =
    keeps m after (λ a n from to. ap (λ (l : List ℕ). take n (drop (place_of a) l)) bytes) end

-- ---- bytes that stand elsewhere

part_before : (l ys : List ℕ) (i j n : ℕ) → i + length ys ≤ length l → j + n ≤ i
    → take n (drop j (splice l i ys)) ≡ take n (drop j l)
part_before l ys i j n fits apart = same_lists _ _ (grind (arith, places)) (λ k d h. grind (arith, places))

part_behind : (l ys : List ℕ) (i j n : ℕ) → i + length ys ≤ length l → i + length ys ≤ j
    → take n (drop j (splice l i ys)) ≡ take n (drop j l)
part_behind l ys i j n fits apart = same_lists _ _ (grind (arith, places)) (λ k d h. grind (arith, places))

pub spliced_length : (l ys : List ℕ) (i : ℕ) → i + length ys ≤ length l → length (splice l i ys) ≡ length l
spliced_length l ys i fits = grind (arith, places)

-- n bytes at a place lie in the list of all bytes, and none is of the property region from its first property on
record IsApart (i n : ℕ) : Type 0 where
  fits : i + n ≤ byte_count
  apart : (i + n ≤ 262160) ⊎ (393216 ≤ i)

place_is : (a : ℕ) → first_property ≤ a → a ≤ property_limit → place_of a + property_start ≡ a + 262144
place_is a from to = omega arith

elsewhere : (l ys : List ℕ) (i : ℕ) → length l ≡ byte_count → IsApart i (length ys)
    → (a n : ℕ) → first_property ≤ a → a + n ≤ property_limit
    → take n (drop (place_of a) (splice l i ys)) ≡ take n (drop (place_of a) l)
elsewhere l ys i whole s a n from to =
    let at = place_is a from (omega (arith, to)) in
    let fits : i + length ys ≤ length l = omega (arith, whole, s.fits) in
    elim (s.apart) [
      | inl low ↦ part_behind l ys i (place_of a) n fits (omega (arith, at, low, from))
      | inr high ↦ part_before l ys i (place_of a) n fits (omega (arith, at, high, to))
    ]

spliced : (m after : DataSpace) (i : ℕ) (ys : List ℕ) → length m.bytes ≡ byte_count → IsApart i (length ys)
    → after.bytes ≡ splice m.bytes i ys → after.properties_end ≡ m.properties_end → KeepsProperties m after
spliced m after i ys whole s bytes end =
    keeps m after (λ a n from to.
    ap (λ (l : List ℕ). take n (drop (place_of a) l)) bytes ∙ elsewhere m.bytes ys i whole s a n from to) end

-- ---- what programs write

not_two : (a : ℕ) → may_write (region_of a) ≡ true → a / span ≡ 2 → ⊥
not_two a may two =
    let region : region_of a ≡ region_of property_start = rw two refl in
    let never : false ≡ true = sym (ap may_write region) ∙ may in
    cc

apart_of : (a n : ℕ) → IsPlaced a n → (a / span ≡ 2 → ⊥) → IsApart (place_of a) n
apart_of a n p other =
    elim (cases_lt (a / span) 2) [
      | inl low ↦ record {
        fits = omega (arith, p.some, p.last, p.within);
        apart = inl (omega (arith, p.some, p.within, low));
      }
      | inr rest ↦
          elim (cases_eq (a / span) 2) [
            | inl two ↦ absurd (other two)
            | inr more ↦ record {
              fits = omega (arith, p.some, p.last, p.within);
              apart = inr (omega (arith, more, rest));
            }
          ]
    ]

good_bytes : (m : DataSpace) (a : ℕ) (ys : List ℕ) (w : Width) → IsSound m → write_fault m a (length ys) w ≡ None
    → KeepsProperties m (written m a ys)
good_bytes m a [] w sound e = rw (written_none m a) (same_bytes m m refl refl)
good_bytes m a (y ∷ ys) w sound e =
    let n = length (y ∷ ys) in
    let some : 0 < n = omega arith in
    let can = can_write m a n w some e in
    let p = ranges_are_placed.placed m a n w can.read some in
    spliced m (written m a (y ∷ ys)) (place_of a) (y ∷ ys) sound.bytes (apart_of a n p (not_two a can.may)) refl refl

good_write_keeps : (m after : DataSpace) (a n : ℕ) (ys : List ℕ) (w : Width) → IsSound m → length ys ≡ n
    → write_fault m a n w ≡ None → written m a ys ≡ after → KeepsProperties m after
good_write_keeps m after a n ys w sound many good is =
    rw (← is) (good_bytes m a ys w sound (rw many good))

by_write : (w : Width) (m after : DataSpace) (a x : ℕ) → IsSound m → write w m a x ≡ Ok after
    → KeepsProperties m after
by_write w m after a x sound e =
    let ys = big_bytes (bytes_in w) x in
    let is = unless_is (write_fault m a (bytes_in w) w) (written m a ys) after e in
    good_write_keeps m after a (bytes_in w) ys w sound (width_bytes w x) is.0 is.1

by_bytes : (m after : DataSpace) (a : ℕ) (xs : List ℕ) → IsSound m → bytes_written m a xs ≡ Ok after
    → KeepsProperties m after
by_bytes m after a xs sound e =
    let is = unless_is (write_fault m a (length xs) One) (written m a xs) after e in
    good_write_keeps m after a (length xs) xs One sound refl is.0 is.1

by_fill : (m after : DataSpace) (a n x : ℕ) → IsSound m → filled m a n x ≡ Ok after → KeepsProperties m after
by_fill m after a n x sound e =
    let is = unless_is (write_fault m a n One) (written m a (replicate n x)) after e in
    good_write_keeps m after a n (replicate n x) One sound (length-replicate n x) is.0 is.1

by_copy : (m after : DataSpace) (from to n : ℕ) → IsSound m → copied m from to n ≡ Ok after → KeepsProperties m after
by_copy m after from to n sound e =
    let f = read_fault m from n One in
    let g = write_fault m to n One in
    let ys = bytes_from m from n in
    let is = unless_is (or_fault f g) (written m to ys) after e in
    let both = both_none f g is.0 in
    good_write_keeps m after to n ys One sound (read_length m from n sound both.0) both.1 is.1

by_state : (m : DataSpace) (compiling : Bool) → IsSound m → KeepsProperties m (with_state m compiling)
by_state m compiling sound =
    let ys = big_bytes 4 (flag compiling).0 in
    spliced m (with_state m compiling) (place_of property_start) ys sound.bytes
    (record { fits = omega arith; apart = inl (omega arith) }) refl refl

-- ---- the data region

by_allot : (m after : DataSpace) (n : ℕ) → allotted m n ≡ Ok after → KeepsProperties m after
by_allot m after n e =
    let a = moved m.here n in
    rw (← (moved_is m after a e).is) (same_bytes m (record m { here = a }) refl refl)

data_apart : (a n : ℕ) → data_start ≤ a → a + n ≤ data_limit → IsApart (place_of a) n
data_apart a n from to = record { fits = omega arith; apart = inl (omega arith) }

by_append : (m after : DataSpace) (xs : List ℕ) (at : ℕ) → IsSound m → appended m xs ≡ Ok (at, after)
    → KeepsProperties m after
by_append m after xs at sound e =
    let is = appended_is m after xs at e in
    let new = record (written m m.here xs) { here = m.here + length xs } in
    rw (← is.is) (spliced m new (place_of m.here) xs sound.bytes
    (data_apart m.here (length xs) sound.here_from is.to) refl refl)

append_of : (r : Result (List ℕ) MemFault) (m after : DataSpace) (tail : List ℕ) (at : ℕ) → IsSound m
    → with_read r (λ xs. appended m (xs ++ tail)) ≡ Ok (at, after) → KeepsProperties m after
append_of (Ok xs) m after tail at sound e = by_append m after (xs ++ tail) at sound e
append_of (Err f) m after tail at sound e = absurd (never_answer f (at, after) e)

by_zeros : (m after : DataSpace) (n at : ℕ) → IsSound m
    → zeros_allotted m n ≡ Ok (at, after) → KeepsProperties m after
by_zeros m after n at sound e =
    let is = zeroed_is m after n at e in
    let a = aligned m.here in
    let ys = replicate n 0 in
    let many : length ys ≡ n = length-replicate n 0 in
    let apart : IsApart (place_of a) (length ys) = rw many (data_apart a n (omega (arith, sound.here_from)) is.to) in
    rw (← is.is) (spliced m (with_zeros m n) (place_of a) ys sound.bytes apart refl refl)

-- ---- the image region

image_apart : (a n : ℕ) → image_start ≤ a → a + n ≤ image_limit → IsApart (place_of a) n
image_apart a n from to = record { fits = omega arith; apart = inr (omega arith) }

pub free_from : (ends : List ℕ) → AreStacked ends → image_start ≤ free_after ends
free_from [] h = omega arith
free_from (end ∷ ends) h = omega (arith, h.0, h.1)

by_push : (m after : DataSpace) (xs : List ℕ) (at : ℕ) → IsSound m → image_pushed m xs ≡ Ok (at, after)
    → KeepsProperties m after
by_push m after xs at sound e =
    let is = pushed_is m after xs at e in
    let a = free_after m.images in
    let new = record (written m a xs) { images = (a + length xs) ∷ m.images } in
    rw (← is.is) (spliced m new (place_of a) xs sound.bytes
    (image_apart a (length xs) (free_from m.images sound.images) is.to) refl refl)

push_of : (r : Result (List ℕ) MemFault) (m after : DataSpace) (at : ℕ) → IsSound m
    → with_read r (image_pushed m) ≡ Ok (at, after) → KeepsProperties m after
push_of (Ok xs) m after at sound e = by_push m after xs at sound e
push_of (Err f) m after at sound e = absurd (never_answer f (at, after) e)

popped : (ends : List ℕ) (m : DataSpace) → length m.bytes ≡ byte_count → AreStacked ends
    → KeepsProperties m (without_image m ends)
popped [] m whole h = same_bytes m m refl refl
popped (end ∷ ends) m whole h =
    let a = free_after ends in
    let ys = replicate (end - a) 0 in
    let many : length ys ≡ end - a = length-replicate (end - a) 0 in
    let apart : IsApart (place_of a) (length ys) =
    rw many (image_apart a (end - a) h.0 (omega (arith, h.1, h.2))) in
    spliced m (without_image m (end ∷ ends)) (place_of a) ys whole apart refl refl

-- ---- blocks

-- the regions of blocks lie behind that of properties
heap_apart : (bs : List Block) (size a : ℕ) → IsFree heap_start heap_limit bs size a → IsApart (place_of a) size
heap_apart bs size a f = record { fits = omega (arith, f.from, f.to); apart = inr (omega (arith, f.from, f.to)) }

instance_apart : (bs : List Block) (size a : ℕ) → IsFree instance_start instance_limit bs size a
    → IsApart (place_of a) size
instance_apart bs size a f = record { fits = omega (arith, f.from, f.to); apart = inr (omega (arith, f.from, f.to)) }

-- what a block that was taken leaves, and as many bytes as before
record IsTaken (m after : DataSpace) : Type 0 where
  kept : KeepsProperties m after
  whole : length after.bytes ≡ byte_count

zeroed : (m after : DataSpace) (a size : ℕ) → length m.bytes ≡ byte_count → IsApart (place_of a) size
    → after.bytes ≡ splice m.bytes (place_of a) (replicate size 0) → after.properties_end ≡ m.properties_end
    → IsTaken m after
zeroed m after a size whole apart bytes end =
    let ys = replicate size 0 in
    let many : length ys ≡ size = length-replicate size 0 in
    let there : IsApart (place_of a) (length ys) = rw many apart in
    record {
      kept = spliced m after (place_of a) ys whole there bytes end;
      whole = ap length bytes ∙ (spliced_length m.bytes ys (place_of a) (omega (arith, whole, there.fits)) ∙ whole);
    }

by_heap_take : (m : DataSpace) (n : ℕ) (x : ℕ × DataSpace) → length m.bytes ≡ byte_count → heap_taken m n ≡ Ok x
    → IsTaken m x.1
by_heap_take m n x whole e =
    let t = heap_is m n x e in
    let new = record (written m x.0 (replicate (rounded n) 0)) { heap = with_block (block_for x.0 n) m.heap } in
    rw (← t.is) (zeroed m new x.0 (rounded n) whole (heap_apart m.heap (rounded n) x.0 t.free) refl refl)

by_instance_take : (m : DataSpace) (n : ℕ) (x : ℕ × DataSpace) → length m.bytes ≡ byte_count
    → instance_taken m n ≡ Ok x → IsTaken m x.1
by_instance_take m n x whole e =
    let t = instance_is m n x e in
    let bs = with_block (block_for x.0 n) m.instances in
    let new = record (written m x.0 (replicate (rounded n) 0)) { instances = bs } in
    rw (← t.is) (zeroed m new x.0 (rounded n) whole (instance_apart m.instances (rounded n) x.0 t.free) refl refl)

by_heap_give : (m after : DataSpace) (a n : ℕ) → heap_given m a n ≡ Ok after → KeepsProperties m after
by_heap_give m after a n e =
    let g = heap_given_is m after a n e in
    rw (← g.1) (same_bytes m (record m { heap = remove m.heap g.0 }) refl refl)

by_instance_give : (m after : DataSpace) (a n : ℕ) → instance_given m a n ≡ Ok after → KeepsProperties m after
by_instance_give m after a n e =
    let g = instance_given_is m after a n e in
    rw (← g.1) (same_bytes m (record m { instances = remove m.instances g.0 }) refl refl)

both_keep : (m between after : DataSpace) → KeepsProperties m between → KeepsProperties between after
    → KeepsProperties m after
both_keep m between after f g = record {
  reads = λ a n from to. g.reads a n from to ∙ f.reads a n from to;
  ends = g.ends ∙ f.ends;
}

instances_of : (ns : List Cell) (m after : DataSpace) (at : List Cell) → length m.bytes ≡ byte_count
    → instances_taken m ns ≡ Ok (at, after) → KeepsProperties m after
instances_of [] m after at whole e = rw (← answers_is ([], m) (at, after) e) (same_bytes m m refl refl)
instances_of (n ∷ ns) m after at whole e =
    let s = several_is m after n ns at e in
    let one = by_instance_take m n.0 s.first whole s.taken in
    both_keep m s.first.1 after one.kept (instances_of ns s.first.1 after s.others one.whole s.rest)

pub properties_change_by_puts_alone : PropertiesChangeByPutsAlone
properties_change_by_puts_alone = record {
  by_write = by_write;
  by_bytes = by_bytes;
  by_fill = by_fill;
  by_copy = by_copy;
  by_state = by_state;
  by_allot = by_allot;
  by_append = by_append;
  by_append_copy = λ m after a n tail at sound e. append_of (read_bytes m a n) m after tail at sound e;
  by_zeros = by_zeros;
  by_push = by_push;
  by_push_from = λ m after a n s at sound e. push_of (read_spread m a n s) m after at sound e;
  by_pop = λ m sound. popped m.images m sound.bytes sound.images;
  by_heap_take = λ m after n at sound e. (by_heap_take m n (at, after) sound.bytes e).kept;
  by_heap_give = by_heap_give;
  by_instance_take = λ m after n at sound e. (by_instance_take m n (at, after) sound.bytes e).kept;
  by_instance_takes = λ m after ns at sound e. instances_of ns m after at sound.bytes e;
  by_instance_give = by_instance_give;
}
