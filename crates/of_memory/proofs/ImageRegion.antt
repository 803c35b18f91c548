-- The law `images_change_by_images_alone`: all other changes are below the image region, the last of all.
use Rattle.std.proofs.Common.{◌≡◌, ℕ, ◌+◌, ◌≤◌, Bool, List, [], ◌∷◌, ◌++◌, length, drop, replicate, None, Ok, refl, ap}
use Rattle.std.proofs.Common.{◌∙◌, arith}
use Rattle.std.proofs.lemmas.List.{length-replicate, places, same_lists}
use Rattle.std.specs.List.{remove}
use Rattle.byteorder.specs.Endian.{big_bytes}
use Rattle.of_cells.specs.declared.cells.Cell.{Cell}
use Rattle.of_cells.specs.Numbers.{flag}
use Rattle.of_memory.specs.Access.{bytes_written, copied, filled, or_fault, read_bytes, read_fault, write, write_fault}
use Rattle.of_memory.specs.Blocks.{rounded, with_block}
use Rattle.of_memory.specs.BlockCalls.{heap_given, heap_taken, instance_given, instance_taken, instances_taken}
use Rattle.of_memory.specs.DataSpace.{DataSpace, IsSound, bytes_from, splice, written}
use Rattle.of_memory.specs.Growth.{aligned, allotted, append_copied, appended, moved, named_put, property_put}
use Rattle.of_memory.specs.Growth.{with_state, with_zeros, zeros_allotted}
use Rattle.of_memory.specs.ImageRegion.{ImagesChangeByImagesAlone, KeepsImages}
use Rattle.of_memory.specs.Regions.{byte_count, data_limit, first_property, place_of, property_limit, property_start}
use Rattle.of_memory.specs.Width.{bytes_in}
use Rattle.of_memory.specs.declared.width.Width.{Width}
use Rattle.of_memory.specs.declared.width.Width.TheVariants.{One}
use Rattle.of_memory.proofs.Ended.{IsPut, answers_is, appended_is, block_for, heap_given_is, heap_is, instance_given_is}
use Rattle.of_memory.proofs.Ended.{instance_is, moved_is, named_is, put_is, read_length, read_then, several_is}
use Rattle.of_memory.proofs.Ended.{unless_is, width_bytes, write_place, zeroed_is}
use Rattle.of_memory.proofs.Nothing.{written_none}
use Rattle.of_memory.proofs.PropertyRegion.{spliced_length}
use Rattle.of_memory.proofs.Ranges.{both_none}

-- ---- bytes below the image region

behind_is : (xs ys : List ℕ) (i p : ℕ) → i + length ys ≤ length xs → i + length ys ≤ p
    → drop p (splice xs i ys) ≡ drop p xs
behind_is xs ys i p fits below = same_lists _ _ (grind (arith, places)) (λ k d h. grind (arith, places))

-- the images stand, and there are as many bytes as before
record Stands (m after : DataSpace) : Type 0 where
  images : after.images ≡ m.images
  bytes : drop 0x14_0000 after.bytes ≡ drop 0x14_0000 m.bytes
  whole : length after.bytes ≡ length m.bytes

keeps : (m after : DataSpace) → Stands m after → KeepsImages m after
keeps m after s = (s.images, s.bytes)

spliced : (m after : DataSpace) (i : ℕ) (ys : List ℕ) → length m.bytes ≡ byte_count → i + length ys ≤ 0x14_0000
    → after.bytes ≡ splice m.bytes i ys → after.images ≡ m.images → Stands m after
spliced m after i ys whole below bytes images =
    let fits : i + length ys ≤ length m.bytes = omega (arith, whole, below) in
    record {
      images = images;
      bytes = ap (λ (l : List ℕ). drop 0x14_0000 l) bytes ∙ behind_is m.bytes ys i 0x14_0000 fits below;
      whole = ap (λ (l : List ℕ). length l) bytes ∙ spliced_length m.bytes ys i fits;
    }

same : (m after : DataSpace) → after.bytes ≡ m.bytes → after.images ≡ m.images → Stands m after
same m after bytes images = record {
  images = images;
  bytes = ap (λ (l : List ℕ). drop 0x14_0000 l) bytes;
  whole = ap (λ (l : List ℕ). length l) bytes;
}

both : (m between after : DataSpace) → Stands m between → Stands between after → Stands m after
both m between after f g = record {
  images = g.images ∙ f.images;
  bytes = g.bytes ∙ f.bytes;
  whole = g.whole ∙ f.whole;
}

-- ---- reads and writes

by_place : (m : DataSpace) (a : ℕ) (xs : List ℕ) → length m.bytes ≡ byte_count → place_of a + length xs ≤ 0x14_0000
    → Stands m (written m a xs)
by_place m a xs whole below = spliced m (written m a xs) (place_of a) xs whole below refl refl

good_bytes : (m : DataSpace) (a : ℕ) (ys : List ℕ) (w : Width) → length m.bytes ≡ byte_count
    → write_fault m a (length ys) w ≡ None → Stands m (written m a ys)
good_bytes m a [] w whole e = rw (written_none m a) (same m m refl refl)
good_bytes m a (y ∷ ys) w whole e =
    by_place m a (y ∷ ys) whole (write_place m a (length (y ∷ ys)) w (omega arith) e)

good_write : (m after : DataSpace) (a n : ℕ) (ys : List ℕ) (w : Width) → IsSound m → length ys ≡ n
    → write_fault m a n w ≡ None → written m a ys ≡ after → Stands m after
good_write m after a n ys w sound many good is = rw (← is) (good_bytes m a ys w sound.bytes (rw many good))

by_write : (w : Width) (m after : DataSpace) (a x : ℕ) → IsSound m → write w m a x ≡ Ok after → Stands m after
by_write w m after a x sound e =
    let ys = big_bytes (bytes_in w) x in
    let is = unless_is (write_fault m a (bytes_in w) w) (written m a ys) after e in
    good_write m after a (bytes_in w) ys w sound (width_bytes w x) is.0 is.1

by_bytes : (m after : DataSpace) (a : ℕ) (xs : List ℕ) → IsSound m → bytes_written m a xs ≡ Ok after
    → Stands m after
by_bytes m after a xs sound e =
    let is = unless_is (write_fault m a (length xs) One) (written m a xs) after e in
    good_write m after a (length xs) xs One sound refl is.0 is.1

by_fill : (m after : DataSpace) (a n x : ℕ) → IsSound m → filled m a n x ≡ Ok after → Stands m after
by_fill m after a n x sound e =
    let is = unless_is (write_fault m a n One) (written m a (replicate n x)) after e in
    good_write m after a n (replicate n x) One sound (length-replicate n x) is.0 is.1

by_copy : (m after : DataSpace) (from to n : ℕ) → IsSound m → copied m from to n ≡ Ok after → Stands m after
by_copy m after from to n sound e =
    let f = read_fault m from n One in
    let g = write_fault m to n One in
    let ys = bytes_from m from n in
    let is = unless_is (or_fault f g) (written m to ys) after e in
    let parts = both_none f g is.0 in
    good_write m after to n ys One sound (read_length m from n sound parts.0) parts.1 is.1

by_state : (m : DataSpace) (compiling : Bool) → IsSound m → Stands m (with_state m compiling)
by_state m compiling sound = by_place m property_start (big_bytes 4 (flag compiling).0) sound.bytes (omega arith)

-- ---- the data region

by_allot : (m after : DataSpace) (n : ℕ) → allotted m n ≡ Ok after → Stands m after
by_allot m after n e =
    let a = moved m.here n in rw (← (moved_is m after a e).is) (same m (record m { here = a }) refl refl)

by_append : (m after : DataSpace) (xs : List ℕ) (at : ℕ) → IsSound m → appended m xs ≡ Ok (at, after)
    → Stands m after
by_append m after xs at sound e =
    let is = appended_is m after xs at e in
    let new = record (written m m.here xs) { here = m.here + length xs } in
    let below : place_of m.here + length xs ≤ 0x14_0000 = omega (arith, sound.here_from, is.to) in
    rw (← is.is) (spliced m new (place_of m.here) xs sound.bytes below refl refl)

by_append_copy : (m after : DataSpace) (a n : ℕ) (tail : List ℕ) (at : ℕ) → IsSound m
    → append_copied m a n tail ≡ Ok (at, after) → Stands m after
by_append_copy m after a n tail at sound e =
    let r = read_then (read_bytes m a n) (λ xs. appended m (xs ++ tail)) (at, after) e in
    by_append m after (r.0 ++ tail) at sound r.2

by_zeros : (m after : DataSpace) (n at : ℕ) → IsSound m → zeros_allotted m n ≡ Ok (at, after) → Stands m after
by_zeros m after n at sound e =
    let is = zeroed_is m after n at e in
    let ys : List ℕ = replicate n 0 in
    let many : length ys ≡ n = length-replicate n 0 in
    let to : aligned m.here + n ≤ data_limit = is.to in
    let below : place_of (aligned m.here) + length ys ≤ 0x14_0000 = rw many (omega (arith, sound.here_from, to)) in
    rw (← is.is) (spliced m (with_zeros m n) (place_of (aligned m.here)) ys sound.bytes below refl refl)

-- ---- the property region

put : (m after : DataSpace) (xs : List ℕ) → length m.bytes ≡ byte_count → first_property ≤ m.properties_end
    → IsPut m after xs → Stands m after
put m after xs whole from is =
    let a = aligned m.properties_end in
    let to : a + length xs ≤ property_limit = is.to in
    let low : first_property ≤ a = omega (arith, from) in
    let new = record (written m a xs) { properties_end = a + length xs } in
    rw (← is.is) (spliced m new (place_of a) xs whole (omega (arith, low, to)) refl refl)

put_from : (m after : DataSpace) (xs : List ℕ) → first_property ≤ m.properties_end → IsPut m after xs
    → first_property ≤ after.properties_end
put_from m after xs from is =
    let e : aligned m.properties_end + length xs ≡ after.properties_end =
    ap (λ (d : DataSpace). d.properties_end) is.is in
    omega (arith, from, e)

by_put : (m after : DataSpace) (xs : List ℕ) (at : ℕ) → IsSound m → property_put m xs ≡ Ok (at, after)
    → Stands m after
by_put m after xs at sound e = put m after xs sound.bytes sound.properties_from (put_is m xs (at, after) e)

by_named_put : (m after : DataSpace) (name value : List ℕ) (at behind : ℕ) → IsSound m
    → named_put m name value ≡ Ok (at, behind, after) → Stands m after
by_named_put m after name value at behind sound e =
    let are = named_is m after name value at behind e in
    let one = put m are.between name sound.bytes sound.properties_from are.first in
    let from = put_from m are.between name sound.properties_from are.first in
    both m are.between after one (put are.between after value (one.whole ∙ sound.bytes) from are.second)

-- ---- blocks

zeroed : (m after : DataSpace) (a size : ℕ) → length m.bytes ≡ byte_count → place_of a + size ≤ 0x14_0000
    → after.bytes ≡ splice m.bytes (place_of a) (replicate size 0) → after.images ≡ m.images → Stands m after
zeroed m after a size whole below bytes images =
    let many : length (replicate {A = ℕ} size 0) ≡ size = length-replicate size 0 in
    spliced m after (place_of a) (replicate size 0) whole (rw many below) bytes images

by_heap_take : (m : DataSpace) (n : ℕ) (x : ℕ × DataSpace) → length m.bytes ≡ byte_count → heap_taken m n ≡ Ok x
    → Stands m x.1
by_heap_take m n x whole e =
    let t = heap_is m n x e in
    let new = record (written m x.0 (replicate (rounded n) 0)) { heap = with_block (block_for x.0 n) m.heap } in
    rw (← t.is) (zeroed m new x.0 (rounded n) whole (omega (arith, t.free.from, t.free.to)) refl refl)

by_instance_take : (m : DataSpace) (n : ℕ) (x : ℕ × DataSpace) → length m.bytes ≡ byte_count
    → instance_taken m n ≡ Ok x → Stands m x.1
by_instance_take m n x whole e =
    let t = instance_is m n x e in
    let bs = with_block (block_for x.0 n) m.instances in
    let new = record (written m x.0 (replicate (rounded n) 0)) { instances = bs } in
    rw (← t.is) (zeroed m new x.0 (rounded n) whole (omega (arith, t.free.from, t.free.to)) refl refl)

by_instance_takes : (ns : List Cell) (m after : DataSpace) (at : List Cell) → length m.bytes ≡ byte_count
    → instances_taken m ns ≡ Ok (at, after) → Stands m after
by_instance_takes [] m after at whole e = rw (← answers_is ([], m) (at, after) e) (same m m refl refl)
by_instance_takes (n ∷ ns) m after at whole e =
    let s = several_is m after n ns at e in
    let one = by_instance_take m n.0 s.first whole s.taken in
    both m s.first.1 after one (by_instance_takes ns s.first.1 after s.others (one.whole ∙ whole) s.rest)

by_heap_give : (m after : DataSpace) (a n : ℕ) → heap_given m a n ≡ Ok after → Stands m after
by_heap_give m after a n e =
    let g = heap_given_is m after a n e in
    rw (← g.1) (same m (record m { heap = remove m.heap g.0 }) refl refl)

by_instance_give : (m after : DataSpace) (a n : ℕ) → instance_given m a n ≡ Ok after → Stands m after
by_instance_give m after a n e =
    let g = instance_given_is m after a n e in
    rw (← g.1) (same m (record m { instances = remove m.instances g.0 }) refl refl)

pub images_change_by_images_alone : ImagesChangeByImagesAlone
images_change_by_images_alone = record {
  by_write = λ w m after a x sound e. keeps m after (by_write w m after a x sound e);
  by_bytes = λ m after a xs sound e. keeps m after (by_bytes m after a xs sound e);
  by_fill = λ m after a n x sound e. keeps m after (by_fill m after a n x sound e);
  by_copy = λ m after from to n sound e. keeps m after (by_copy m after from to n sound e);
  by_state = λ m compiling sound. keeps m (with_state m compiling) (by_state m compiling sound);
  by_place = λ m a xs sound below. keeps m (written m a xs) (by_place m a xs sound.bytes below);
  by_allot = λ m after n sound e. keeps m after (by_allot m after n e);
  by_append = λ m after xs at sound e. keeps m after (by_append m after xs at sound e);
  by_append_copy = λ m after a n tail at sound e. keeps m after (by_append_copy m after a n tail at sound e);
  by_zeros = λ m after n at sound e. keeps m after (by_zeros m after n at sound e);
  by_put = λ m after xs at sound e. keeps m after (by_put m after xs at sound e);
  by_named_put = λ m after name value at behind sound e.
      keeps m after (by_named_put m after name value at behind sound e);
  by_heap_take = λ m after n at sound e. keeps m after (by_heap_take m n (at, after) sound.bytes e);
  by_heap_give = λ m after a n sound e. keeps m after (by_heap_give m after a n e);
  by_instance_take = λ m after n at sound e. keeps m after (by_instance_take m n (at, after) sound.bytes e);
  by_instance_takes = λ m after ns at sound e. keeps m after (by_instance_takes ns m after at sound.bytes e);
  by_instance_give = λ m after a n sound e. keeps m after (by_instance_give m after a n e);
}
