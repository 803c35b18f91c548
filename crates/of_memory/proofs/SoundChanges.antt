-- The law `changes_stay_sound`: a data space is sound at first, and each change leaves it so.
use Rattle.std.proofs.Common.{◌≡◌, ℕ, zero, suc, ◌+◌, ◌-◌, ◌/◌, ◌%◌, ◌^◌, ◌≤◌, ◌<◌}
use Rattle.std.proofs.Common.{Bool, true, false, List, [], ◌∷◌}
use Rattle.std.proofs.Common.{◌++◌, length, drop, replicate, ◌⊎◌, inl, inr, None, Ok, refl, subst, ◌∙◌, arith}
use Rattle.std.proofs.Common.{nat_le, nat_lt, if◌then◌else◌}
use Rattle.std.proofs.lemmas.Bool.{and_parts, leb-true, ltb-true, ltb-false}
use Rattle.std.proofs.lemmas.List.{length-replicate, length-set}
use Rattle.std.proofs.lemmas.List.Elements.{All-append, All-cons, All-drop, All-head, All-nil, All-replicate}
use Rattle.std.proofs.lemmas.List.Elements.{All-set, All-tail, All-take}
use Rattle.std.specs.Int.{byte_at, bytes_high_first}
use Rattle.std.specs.List.{remove}
use Rattle.std.specs.Prelude.{◌||◌, slice_index}
use Rattle.byteorder.specs.Endian.{big_bytes}
use Rattle.of_cells.specs.declared.cells.Cell.{Cell}
use Rattle.of_cells.specs.Numbers.{flag}
use Rattle.of_memory.specs.Access.{bytes_written, copied, every, filled, or_fault, read_bytes, read_fault, read_spread}
use Rattle.of_memory.specs.Access.{spread_over, write, write_fault}
use Rattle.of_memory.specs.Blocks.{AreLaid, IsFree, meets_none, rounded, with_block}
use Rattle.of_memory.specs.BlockCalls.{heap_given, heap_taken, instance_given, instance_taken, instances_taken}
use Rattle.of_memory.specs.DataSpace.{AreStacked, DataSpace, IsSound, bytes_from, free_after, fresh, written}
use Rattle.of_memory.specs.DataSpace.{zeros_with}
use Rattle.of_memory.specs.Growth.{aligned, allotted, append_copied, appended, image_pushed}
use Rattle.of_memory.specs.Growth.{image_pushed_from, moved, named_put, property_put, with_state}
use Rattle.of_memory.specs.Growth.{without_image, zeros_allotted}
use Rattle.of_memory.specs.Regions.{byte_count, data_limit, data_start, first_property, heap_limit, heap_start}
use Rattle.of_memory.specs.Regions.{image_count, image_limit, image_start, instance_limit, instance_start, place_of}
use Rattle.of_memory.specs.Regions.{property_limit, property_start, scratch_start}
use Rattle.of_memory.specs.SoundChanges.{AreBytes, ChangesStaySound}
use Rattle.of_memory.specs.Width.{bytes_in}
use Rattle.of_memory.specs.declared.blocks.Block.{Block}
use Rattle.of_memory.specs.declared.width.Width.{Width}
use Rattle.of_memory.specs.declared.width.Width.TheVariants.{One}
use Rattle.of_memory.proofs.Ended.{IsPut, answers_is, appended_is, block_for, heap_given_is, heap_is, instance_given_is}
use Rattle.of_memory.proofs.Ended.{instance_is, moved_is, named_is, pushed_is, put_is, read_is, read_length, read_then}
use Rattle.of_memory.proofs.Ended.{several_is, unless_is, width_bytes, write_place, zeroed_is}
use Rattle.of_memory.proofs.Laid.{laid_remove}
use Rattle.of_memory.proofs.Nothing.{written_none}
use Rattle.of_memory.proofs.PropertyRegion.{free_from, spliced_length}
use Rattle.of_memory.proofs.Ranges.{both_none}
use Rattle.of_memory.proofs.Sound.{sound_bytes}
use Rattle.of_memory.proofs.Splices.{bytes_spliced}

-- ---- bytes

bytes_same : (n b : ℕ) → b < 256 → AreBytes (replicate n b)
bytes_same n b l = All-replicate (λ b. b < 256) n b l

zero_bytes : (n : ℕ) → AreBytes (replicate n 0)
zero_bytes n = bytes_same n 0 (omega arith)

bytes_part : (m : DataSpace) (a n : ℕ) → IsSound m → AreBytes (bytes_from m a n)
bytes_part m a n s =
    All-take (λ b. b < 256) n (drop (place_of a) m.bytes) (All-drop (λ b. b < 256) (place_of a) m.bytes s.small)

-- so many, each some places behind the one before
index_small : (xs : List ℕ) (i : ℕ) → AreBytes xs → slice_index xs i < 256
index_small [] i h = omega arith
index_small (x ∷ xs) zero h = All-head (λ b. b < 256) x xs h
index_small (x ∷ xs) (suc i) h = index_small xs i (All-tail (λ b. b < 256) x xs h)

bytes_apart : (xs : List ℕ) (i n s : ℕ) → AreBytes xs → AreBytes (every xs i n s)
bytes_apart xs i zero s h = All-nil (λ b. b < 256)
bytes_apart xs i (suc n) s h =
    All-cons (λ b. b < 256) (slice_index xs i) (every xs (i + s) n s) (index_small xs i h)
    (bytes_apart xs (i + s) n s h)

-- the bytes of a number
rest_small : (n : ℕ) → n % 256 < 256
rest_small n = omega arith

byte_small : (i n : ℕ) → byte_at i n < 256
byte_small zero n = rest_small n
byte_small (suc i) n = rest_small (n / 256 ^ suc i)

high_bytes : (k n : ℕ) → AreBytes (bytes_high_first k n)
high_bytes zero n = All-nil (λ b. b < 256)
high_bytes (suc k) n = All-cons (λ b. b < 256) (byte_at k n) (bytes_high_first k n) (byte_small k n) (high_bytes k n)

-- ---- reads and writes

by_place : (m : DataSpace) (a : ℕ) (ys : List ℕ) → IsSound m → AreBytes ys → place_of a + length ys ≤ byte_count
    → IsSound (written m a ys)
by_place m a ys s small fits =
    let within : place_of a + length ys ≤ length m.bytes = omega (arith, fits, s.bytes) in
    sound_bytes m (written m a ys).bytes s (spliced_length m.bytes ys (place_of a) within ∙ s.bytes)
    (bytes_spliced m.bytes ys (place_of a) within s.small small)

good_bytes : (m : DataSpace) (a : ℕ) (ys : List ℕ) (w : Width) → IsSound m → AreBytes ys
    → write_fault m a (length ys) w ≡ None → IsSound (written m a ys)
good_bytes m a [] w s small e = rw (written_none m a) s
good_bytes m a (y ∷ ys) w s small e =
    let below = write_place m a (length (y ∷ ys)) w (omega arith) e in
    by_place m a (y ∷ ys) s small (omega (arith, below))

good_write : (m after : DataSpace) (a n : ℕ) (ys : List ℕ) (w : Width) → IsSound m → AreBytes ys → length ys ≡ n
    → write_fault m a n w ≡ None → written m a ys ≡ after → IsSound after
good_write m after a n ys w s small many good is = rw (← is) (good_bytes m a ys w s small (rw many good))

by_write : (w : Width) (m after : DataSpace) (a x : ℕ) → IsSound m → write w m a x ≡ Ok after → IsSound after
by_write w m after a x s e =
    let ys = big_bytes (bytes_in w) x in
    let is = unless_is (write_fault m a (bytes_in w) w) (written m a ys) after e in
    good_write m after a (bytes_in w) ys w s (high_bytes (bytes_in w) x) (width_bytes w x) is.0 is.1

by_bytes : (m after : DataSpace) (a : ℕ) (xs : List ℕ) → IsSound m → AreBytes xs → bytes_written m a xs ≡ Ok after
    → IsSound after
by_bytes m after a xs s small e =
    let is = unless_is (write_fault m a (length xs) One) (written m a xs) after e in
    good_write m after a (length xs) xs One s small refl is.0 is.1

by_fill : (m after : DataSpace) (a n x : ℕ) → IsSound m → x < 256 → filled m a n x ≡ Ok after → IsSound after
by_fill m after a n x s l e =
    let is = unless_is (write_fault m a n One) (written m a (replicate n x)) after e in
    good_write m after a n (replicate n x) One s (bytes_same n x l) (length-replicate n x) is.0 is.1

by_copy : (m after : DataSpace) (from to n : ℕ) → IsSound m → copied m from to n ≡ Ok after → IsSound after
by_copy m after from to n s e =
    let f = read_fault m from n One in
    let g = write_fault m to n One in
    let ys = bytes_from m from n in
    let is = unless_is (or_fault f g) (written m to ys) after e in
    let both = both_none f g is.0 in
    good_write m after to n ys One s (bytes_part m from n s) (read_length m from n s both.0) both.1 is.1

by_state : (m : DataSpace) (compiling : Bool) → IsSound m → IsSound (with_state m compiling)
by_state m compiling s =
    by_place m property_start (big_bytes 4 (flag compiling).0) s (high_bytes 4 (flag compiling).0) (omega arith)

-- ---- the data region

here_sound : (m : DataSpace) (a : ℕ) → IsSound m → data_start ≤ a → a ≤ data_limit → IsSound (record m { here = a })
here_sound m a s from to = record {
  bytes = s.bytes;
  small = s.small;
  here_from = from;
  here_to = to;
  properties_from = s.properties_from;
  properties_to = s.properties_to;
  images = s.images;
  few = s.few;
  heap = s.heap;
  instances = s.instances;
}

by_allot : (m after : DataSpace) (n : ℕ) → IsSound m → allotted m n ≡ Ok after → IsSound after
by_allot m after n s e =
    let is = moved_is m after (moved m.here n) e in rw (← is.is) (here_sound m (moved m.here n) s is.from is.to)

-- bytes written from an address behind `here` on, and `here` behind them
grown : (m : DataSpace) (a : ℕ) (xs : List ℕ) → IsSound m → m.here ≤ a → a + length xs ≤ data_limit → AreBytes xs
    → IsSound (record (written m a xs) { here = a + length xs })
grown m a xs s from to small =
    here_sound (written m a xs) (a + length xs) (by_place m a xs s small (omega (arith, s.here_from, from, to)))
    (omega (arith, s.here_from, from)) to

by_append : (m after : DataSpace) (xs : List ℕ) (at : ℕ) → IsSound m → AreBytes xs → appended m xs ≡ Ok (at, after)
    → IsSound after
by_append m after xs at s small e =
    let is = appended_is m after xs at e in
    rw (← is.is) (grown m m.here xs s (omega arith) is.to small)

by_append_copy : (m after : DataSpace) (a n : ℕ) (tail : List ℕ) (at : ℕ) → IsSound m → AreBytes tail
    → append_copied m a n tail ≡ Ok (at, after) → IsSound after
by_append_copy m after a n tail at s small e =
    let r = read_then (read_bytes m a n) (λ xs. appended m (xs ++ tail)) (at, after) e in
    let is = read_is (read_fault m a n One) (bytes_from m a n) r.0 r.1 in
    let bytes : AreBytes r.0 = subst AreBytes is (bytes_part m a n s) in
    by_append m after (r.0 ++ tail) at s (All-append (λ b. b < 256) r.0 tail bytes small) r.2

by_zeros : (m after : DataSpace) (n at : ℕ) → IsSound m → zeros_allotted m n ≡ Ok (at, after) → IsSound after
by_zeros m after n at s e =
    let is = zeroed_is m after n at e in
    let ys : List ℕ = replicate n 0 in
    let many : length ys ≡ n = length-replicate n 0 in
    let from : data_start ≤ aligned m.here + n = omega (arith, s.here_from) in
    let to : aligned m.here + n ≤ data_limit = is.to in
    let fits : place_of (aligned m.here) + length ys ≤ byte_count = rw many (omega (arith, s.here_from, to)) in
    rw (← is.is) (here_sound (written m (aligned m.here) ys) (aligned m.here + n)
    (by_place m (aligned m.here) ys s (zero_bytes n) fits) from to)

-- ---- the property region

properties_sound : (m : DataSpace) (a : ℕ) → IsSound m → first_property ≤ a → a ≤ property_limit
    → IsSound (record m { properties_end = a })
properties_sound m a s from to = record {
  bytes = s.bytes;
  small = s.small;
  here_from = s.here_from;
  here_to = s.here_to;
  properties_from = from;
  properties_to = to;
  images = s.images;
  few = s.few;
  heap = s.heap;
  instances = s.instances;
}

put : (m after : DataSpace) (xs : List ℕ) → IsSound m → AreBytes xs → IsPut m after xs → IsSound after
put m after xs s small is =
    let a = aligned m.properties_end in
    let from : first_property ≤ a = omega (arith, s.properties_from) in
    let to : a + length xs ≤ property_limit = is.to in
    rw (← is.is) (properties_sound (written m a xs) (a + length xs)
    (by_place m a xs s small (omega (arith, from, to))) (omega (arith, from)) to)

by_put : (m after : DataSpace) (xs : List ℕ) (at : ℕ) → IsSound m → AreBytes xs → property_put m xs ≡ Ok (at, after)
    → IsSound after
by_put m after xs at s small e = put m after xs s small (put_is m xs (at, after) e)

by_named_put : (m after : DataSpace) (name value : List ℕ) (at behind : ℕ) → IsSound m → AreBytes name
    → AreBytes value → named_put m name value ≡ Ok (at, behind, after) → IsSound after
by_named_put m after name value at behind s small bytes e =
    let are = named_is m after name value at behind e in
    put are.between after value (put m are.between name s small are.first) bytes are.second

-- ---- the image region

images_sound : (m : DataSpace) (ends : List ℕ) → IsSound m → AreStacked ends → length ends ≤ image_count
    → IsSound (record m { images = ends })
images_sound m ends s stacked few = record {
  bytes = s.bytes;
  small = s.small;
  here_from = s.here_from;
  here_to = s.here_to;
  properties_from = s.properties_from;
  properties_to = s.properties_to;
  images = stacked;
  few = few;
  heap = s.heap;
  instances = s.instances;
}

one_more : (n : ℕ) (ends : List ℕ) → length ends < image_count → length (n ∷ ends) ≤ image_count
one_more n ends l = omega (arith, l)

by_push : (m after : DataSpace) (xs : List ℕ) (at : ℕ) → IsSound m → AreBytes xs → image_pushed m xs ≡ Ok (at, after)
    → IsSound after
by_push m after xs at s small e =
    let is = pushed_is m after xs at e in
    let a = free_after m.images in
    let from : image_start ≤ a = free_from m.images s.images in
    let to : a + length xs ≤ image_limit = is.to in
    rw (← is.is) (images_sound (written m a xs) ((a + length xs) ∷ m.images)
    (by_place m a xs s small (omega (arith, from, to))) (from, omega arith, to, s.images)
    (one_more (a + length xs) m.images is.few))

by_push_from : (m after : DataSpace) (a n s at : ℕ) → IsSound m → image_pushed_from m a n s ≡ Ok (at, after)
    → IsSound after
by_push_from m after a n s at sound e =
    let r = read_then (read_spread m a n s) (image_pushed m) (at, after) e in
    let is = read_is (read_fault m a (spread_over n s) One) (every m.bytes (place_of a) n s) r.0 r.1 in
    by_push m after r.0 at sound (subst AreBytes is (bytes_apart m.bytes (place_of a) n s sound.small)) r.2

fewer : (end : ℕ) (ends : List ℕ) → length (end ∷ ends) ≤ image_count → length ends ≤ image_count
fewer end ends l = omega (arith, l)

popped : (m : DataSpace) (ends : List ℕ) → m.images ≡ ends → IsSound m → IsSound (without_image m ends)
popped m [] e s = s
popped m (end ∷ ends) e s =
    let h : AreStacked (end ∷ ends) = subst (λ x. AreStacked x) e s.images in
    let few : length (end ∷ ends) ≤ image_count = subst (λ (x : List ℕ). length x ≤ image_count) e s.few in
    let zeros : List ℕ = replicate (end - free_after ends) 0 in
    let count = length-replicate {A = ℕ} (end - free_after ends) 0 in
    images_sound (written m (free_after ends) zeros) ends
    (by_place m (free_after ends) zeros s (zero_bytes (end - free_after ends))
    (omega (arith, count, h.0, h.1, h.2)))
    h.3 (fewer end ends few)

-- ---- blocks

heap_sound : (m : DataSpace) (blocks : List Block) → IsSound m → AreLaid heap_start heap_limit blocks
    → IsSound (record m { heap = blocks })
heap_sound m blocks s laid = record {
  bytes = s.bytes;
  small = s.small;
  here_from = s.here_from;
  here_to = s.here_to;
  properties_from = s.properties_from;
  properties_to = s.properties_to;
  images = s.images;
  few = s.few;
  heap = laid;
  instances = s.instances;
}

instances_sound : (m : DataSpace) (blocks : List Block) → IsSound m → AreLaid instance_start instance_limit blocks
    → IsSound (record m { instances = blocks })
instances_sound m blocks s laid = record {
  bytes = s.bytes;
  small = s.small;
  here_from = s.here_from;
  here_to = s.here_to;
  properties_from = s.properties_from;
  properties_to = s.properties_to;
  images = s.images;
  few = s.few;
  heap = s.heap;
  instances = laid;
}

-- a block lies behind another, or before it
sides : (p q : Bool) (a b c d : ℕ) → nat_le a b ≡ p → nat_le c d ≡ q → (p || q) ≡ true → (a ≤ b) ⊎ (c ≤ d)
sides true q a b c d e f h = inl (leb-true a b e)
sides false true a b c d e f h = inr (leb-true c d f)
sides false false a b c d e f h = absurd cc

-- a block that is free to be taken
record IsNew (low high : ℕ) (b : Block) : Type 0 where
  from : low ≤ b.at
  to : b.at + b.size ≤ high
  eighth : b.at % 8 ≡ 0
  some : 0 < b.size
  eighths : b.size % 8 ≡ 0

before_laid : (low high : ℕ) (b c : Block) (cs : List Block) → IsNew low high b → AreLaid low high (c ∷ cs)
    → b.at < c.at → (b.at + b.size ≤ c.at) ⊎ (c.at + c.size ≤ b.at) → AreLaid low high (b ∷ c ∷ cs)
before_laid low high b c cs n h l (inl apart) = (
  record { above = n.from; low_eighth = h.0.low_eighth; eighth = n.eighth; some = n.some; eighths = n.eighths },
  (
    record {
      above = apart;
      low_eighth = omega (arith, n.eighth, n.eighths);
      eighth = h.0.eighth;
      some = h.0.some;
      eighths = h.0.eighths;
    },
    h.1,
  ),
)
before_laid low high b c cs n h l (inr apart) = absurd (omega (arith, l, apart))

behind_new : (low high : ℕ) (b c : Block) → IsNew low high b → c.at ≤ b.at
    → (b.at + b.size ≤ c.at) ⊎ (c.at + c.size ≤ b.at) → IsNew (c.at + c.size) high b
behind_new low high b c n l (inl apart) = absurd (omega (arith, l, apart, n.some))
behind_new low high b c n l (inr apart) =
    record { from = apart; to = n.to; eighth = n.eighth; some = n.some; eighths = n.eighths }

one_laid : (test : Bool) (low high : ℕ) (b c : Block) (cs : List Block) → nat_lt b.at c.at ≡ test → IsNew low high b
    → AreLaid low high (c ∷ cs) → (b.at + b.size ≤ c.at) ⊎ (c.at + c.size ≤ b.at)
    → (IsNew (c.at + c.size) high b → AreLaid (c.at + c.size) high (with_block b cs))
    → AreLaid low high (if test then b ∷ c ∷ cs else c ∷ with_block b cs)
one_laid true low high b c cs e n h apart rest = before_laid low high b c cs n h (ltb-true b.at c.at e) apart
one_laid false low high b c cs e n h apart rest =
    (h.0, rest (behind_new low high b c n (ltb-false b.at c.at e) apart))

more_laid : (low high : ℕ) (b : Block) (bs : List Block) → IsNew low high b → meets_none bs b.size b.at ≡ true
    → AreLaid low high bs → AreLaid low high (with_block b bs)
more_laid low high b [] n apart h = (
  record { above = n.from; low_eighth = h.1; eighth = n.eighth; some = n.some; eighths = n.eighths },
  (n.to, omega (arith, n.eighth, n.eighths)),
)
more_laid low high b (c ∷ cs) n apart h =
    let p = nat_le (b.at + b.size) c.at in
    let q = nat_le (c.at + c.size) b.at in
    let both = and_parts (p || q) (meets_none cs b.size b.at) apart in
    one_laid (nat_lt b.at c.at) low high b c cs refl n h
    (sides p q (b.at + b.size) c.at (c.at + c.size) b.at refl refl both.0)
    (λ k. more_laid (c.at + c.size) high b cs k both.1 h.1)

-- a block that was taken where it is free, of a size that is taken for some bytes
taken_laid : (low high : ℕ) (bs : List Block) (a n : ℕ) → IsFree low high bs (rounded n) a → AreLaid low high bs
    → AreLaid low high (with_block (block_for a n) bs)
taken_laid low high bs a n free h =
    more_laid low high (block_for a n) bs
    (record {
      from = free.from;
      to = free.to;
      eighth = free.aligned;
      some = omega arith;
      eighths = omega arith;
    })
    free.apart h

heap_taken_sound : (m : DataSpace) (n : ℕ) (x : ℕ × DataSpace) → IsSound m → heap_taken m n ≡ Ok x → IsSound x.1
heap_taken_sound m n x s e =
    let t = heap_is m n x e in
    let zeros : List ℕ = replicate (rounded n) 0 in
    let many : length zeros ≡ rounded n = length-replicate (rounded n) 0 in
    let fits : place_of x.0 + length zeros ≤ byte_count = rw many (omega (arith, t.free.from, t.free.to)) in
    rw (← t.is) (heap_sound (written m x.0 zeros) (with_block (block_for x.0 n) m.heap)
    (by_place m x.0 zeros s (zero_bytes (rounded n)) fits)
    (taken_laid heap_start heap_limit m.heap x.0 n t.free s.heap))

instance_taken_sound : (m : DataSpace) (n : ℕ) (x : ℕ × DataSpace) → IsSound m → instance_taken m n ≡ Ok x
    → IsSound x.1
instance_taken_sound m n x s e =
    let t = instance_is m n x e in
    let zeros : List ℕ = replicate (rounded n) 0 in
    let many : length zeros ≡ rounded n = length-replicate (rounded n) 0 in
    let fits : place_of x.0 + length zeros ≤ byte_count = rw many (omega (arith, t.free.from, t.free.to)) in
    rw (← t.is) (instances_sound (written m x.0 zeros) (with_block (block_for x.0 n) m.instances)
    (by_place m x.0 zeros s (zero_bytes (rounded n)) fits)
    (taken_laid instance_start instance_limit m.instances x.0 n t.free s.instances))

by_instance_takes : (m after : DataSpace) (ns at : List Cell) → IsSound m → instances_taken m ns ≡ Ok (at, after)
    → IsSound after
by_instance_takes m after [] at s e = rw (← answers_is ([], m) (at, after) e) s
by_instance_takes m after (n ∷ ns) at s e =
    let f = several_is m after n ns at e in
    by_instance_takes f.first.1 after ns f.others (instance_taken_sound m n.0 f.first s f.taken) f.rest

by_heap_give : (m after : DataSpace) (a n : ℕ) → IsSound m → heap_given m a n ≡ Ok after → IsSound after
by_heap_give m after a n s e =
    let g = heap_given_is m after a n e in
    rw (← g.1) (heap_sound m (remove m.heap g.0) s (laid_remove heap_start heap_limit m.heap g.0 s.heap))

by_instance_give : (m after : DataSpace) (a n : ℕ) → IsSound m → instance_given m a n ≡ Ok after → IsSound after
by_instance_give m after a n s e =
    let g = instance_given_is m after a n e in
    rw (← g.1) (instances_sound m (remove m.instances g.0) s
    (laid_remove instance_start instance_limit m.instances g.0 s.instances))

-- ---- at first

zeros_length : (count place value : ℕ) → length (zeros_with count place value) ≡ count
unfolding zeros_with
zeros_length count place value =
    length-set (replicate count 0) place value ∙ length-replicate {A = ℕ} count 0

zeros_small : (count place value : ℕ) → value < 256 → AreBytes (zeros_with count place value)
unfolding zeros_with
zeros_small count place value l = All-set (λ b. b < 256) (replicate count 0) place value l (zero_bytes count)

at_first : IsSound fresh
unfolding fresh
at_first = record {
  bytes = zeros_length byte_count (place_of (scratch_start + 3)) 16;
  small = zeros_small byte_count (place_of (scratch_start + 3)) 16 (omega arith);
  here_from = omega arith;
  here_to = omega arith;
  properties_from = omega arith;
  properties_to = omega arith;
  images = tt;
  few = omega arith;
  heap = (omega arith, refl);
  instances = (omega arith, refl);
}

pub changes_stay_sound : ChangesStaySound
changes_stay_sound = record {
  at_first = at_first;
  number = high_bytes;
  by_write = by_write;
  by_bytes = by_bytes;
  by_fill = by_fill;
  by_copy = by_copy;
  by_state = by_state;
  by_place = by_place;
  by_allot = by_allot;
  by_append = by_append;
  by_append_copy = by_append_copy;
  by_zeros = by_zeros;
  by_put = by_put;
  by_named_put = by_named_put;
  by_push = by_push;
  by_push_from = by_push_from;
  by_pop = λ m s. popped m m.images refl s;
  by_heap_take = λ m after n at s e. heap_taken_sound m n (at, after) s e;
  by_heap_give = by_heap_give;
  by_instance_take = λ m after n at s e. instance_taken_sound m n (at, after) s e;
  by_instance_takes = by_instance_takes;
  by_instance_give = by_instance_give;
}
