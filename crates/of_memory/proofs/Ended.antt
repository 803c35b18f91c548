-- What a call of the data space that ended shows.
use Rattle.std.proofs.Common.{◌≡◌, ℕ, zero, suc, ◌+◌, ◌-◌, ◌/◌, ◌%◌, ◌<◌, ◌≤◌, nat_le, nat_lt, Bool, true, false, ◌&&◌}
use Rattle.std.proofs.Common.{inl, inr, List, ◌∷◌, length, replicate, Option, Some, None}
use Rattle.std.proofs.Common.{Result, Ok, Err, if◌then◌else◌, refl, ap, sym, ◌∙◌, arith}
use Rattle.std.proofs.lemmas.Bool.{and_parts, cases_lt, leb-true, ltb-true}
use Rattle.std.specs.List.{position, remove}
use Rattle.byteorder.specs.Endian.{big_bytes}
use Rattle.of_cells.specs.declared.cells.Cell.{Cell}
use Rattle.of_memory.specs.Access.{IsPlaced, read_fault, unless, with_read, write_fault}
use Rattle.of_memory.specs.Blocks.{IsFree, first_of_eighths, is_block, least_free, meets_none, rounded, with_block}
use Rattle.of_memory.specs.BlockCalls.{block_given_at, block_taken_at, heap_given, heap_left, heap_taken, heap_zeroed}
use Rattle.of_memory.specs.BlockCalls.{instance_given, instance_taken, instance_zeroed, instances_left, instances_taken}
use Rattle.of_memory.specs.BlockCalls.{taken_then, with_first}
use Rattle.of_memory.specs.DataSpace.{DataSpace, IsSound, bytes_from, free_after, written}
use Rattle.of_memory.specs.Growth.{aligned, appended, image_pushed, named_put, property_put, value_put, with_here}
use Rattle.of_memory.specs.Growth.{with_name, with_zeros, zeros_allotted}
use Rattle.of_memory.specs.Regions.{data_limit, data_start, heap_limit, heap_start, image_count, image_limit}
use Rattle.of_memory.specs.Regions.{image_start, instance_limit, instance_start, may_write, place_of, property_limit}
use Rattle.of_memory.specs.Regions.{region_of, span}
use Rattle.of_memory.specs.Width.{bytes_in}
use Rattle.of_memory.specs.declared.blocks.Block.{Block}
use Rattle.of_memory.specs.declared.fault.MemFault.{MemFault}
use Rattle.of_memory.specs.declared.fault.MemFault.TheVariants.{BadBlock, Full}
use Rattle.of_memory.specs.declared.width.Width.{Width}
use Rattle.of_memory.specs.declared.width.Width.TheVariants.{Four, One, Two}
use Rattle.of_memory.proofs.Ranges.{can_write, ranges_are_placed}
use Rattle.of_memory.proofs.Splices.{part_length}

pub never_space : (f : MemFault) (x : DataSpace) → ◌≡◌ {A = Result DataSpace MemFault} (Err f) (Ok x) → ⊥
never_space f x e = cc

pub space_is : (x y : DataSpace) → ◌≡◌ {A = Result DataSpace MemFault} (Ok x) (Ok y) → x ≡ y
space_is x y e = cc

pub never_answer : (f : MemFault) (x : ℕ × DataSpace) → ◌≡◌ {A = Result (ℕ × DataSpace) MemFault} (Err f) (Ok x) → ⊥
never_answer f x e = cc

pub answer_is : (x y : ℕ × DataSpace) → ◌≡◌ {A = Result (ℕ × DataSpace) MemFault} (Ok x) (Ok y) → x.1 ≡ y.1
answer_is x y e = let pair : ◌≡◌ {A = ℕ × DataSpace} x y = cc in ap (λ (z : ℕ × DataSpace). z.1) pair

-- what was written without a fault
pub unless_is : (f : Option MemFault) (x after : DataSpace) → unless f x ≡ Ok after → (f ≡ None) × (x ≡ after)
unless_is None x after e = (refl, space_is x after e)
unless_is (Some fault) x after e = absurd (never_space fault after e)

pub width_bytes : (w : Width) (x : ℕ) → length (big_bytes (bytes_in w) x) ≡ bytes_in w
width_bytes One x = refl
width_bytes Two x = refl
width_bytes Four x = refl

-- so many bytes that were read
pub read_length : (m : DataSpace) (a n : ℕ) → IsSound m → read_fault m a n One ≡ None → length (bytes_from m a n) ≡ n
read_length m a zero sound e = refl
read_length m a (suc n) sound e =
    let p = ranges_are_placed.placed m a (suc n) One e (omega arith) in
    part_length m.bytes (place_of a) (suc n) (omega (arith, sound.bytes, p.some, p.last, p.within))

pub answer_if : (b : Bool) (at : ℕ) (new : DataSpace) (x : ℕ × DataSpace)
    → (if b then Ok (at, new) else Err Full) ≡ Ok x → (b ≡ true) × (new ≡ x.1)
answer_if true at new x e = (refl, answer_is (at, new) x e)
answer_if false at new x e = absurd (never_answer Full x e)

pub same_some : (a b : ℕ) → ◌≡◌ {A = Option ℕ} (Some a) (Some b) → a ≡ b
same_some a b e = cc

pub none_some : (a : ℕ) → ◌≡◌ {A = Option ℕ} None (Some a) → ⊥
none_some a e = cc

pub never_answers : (f : MemFault) (x : List Cell × DataSpace)
    → ◌≡◌ {A = Result (List Cell × DataSpace) MemFault} (Err f) (Ok x) → ⊥
never_answers f x e = cc

pub answers_is : (x y : List Cell × DataSpace) → ◌≡◌ {A = Result (List Cell × DataSpace) MemFault} (Ok x) (Ok y)
    → x.1 ≡ y.1
answers_is x y e = let pair : ◌≡◌ {A = List Cell × DataSpace} x y = cc in ap (λ (z : List Cell × DataSpace). z.1) pair

pub first_with : (r : Result (List Cell × DataSpace) MemFault) (a : ℕ) (y : List Cell × DataSpace)
    → with_first a r ≡ Ok y → (x : List Cell × DataSpace) × (r ≡ Ok x) × (x.1 ≡ y.1)
first_with (Ok x) a y e = (x, refl, answers_is (record { 0 = a } ∷ x.0, x.1) y e)
first_with (Err f) a y e = absurd (never_answers f y e)

-- ---- what programs write

not_six : (a : ℕ) → may_write (region_of a) ≡ true → a / span ≡ 6 → ⊥
not_six a may six =
    let region : region_of a ≡ region_of image_start = rw six refl in
    let never : false ≡ true = sym (ap may_write region) ∙ may in
    cc

below_six : (a n : ℕ) → IsPlaced a n → (a / span ≡ 6 → ⊥) → place_of a + n ≤ 0x14_0000
below_six a n p other =
    elim (cases_lt (a / span) 6) [
      | inl low ↦ omega (arith, p.some, p.within, low)
      | inr high ↦ absurd (other (omega (arith, high, p.last)))
    ]

-- some bytes that can be written stand below the image region
pub write_place : (m : DataSpace) (a n : ℕ) (w : Width) → 0 < n → write_fault m a n w ≡ None
    → place_of a + n ≤ 0x14_0000
write_place m a n w some e =
    let can = can_write m a n w some e in
    below_six a n (ranges_are_placed.placed m a n w can.read some) (not_six a can.may)

-- what was read
list_is : (xs ys : List ℕ) → ◌≡◌ {A = Result (List ℕ) MemFault} (Ok xs) (Ok ys) → xs ≡ ys
list_is xs ys e = cc

never_list : (f : MemFault) (xs : List ℕ) → ◌≡◌ {A = Result (List ℕ) MemFault} (Err f) (Ok xs) → ⊥
never_list f xs e = cc

pub read_is : (f : Option MemFault) (xs ys : List ℕ) → unless f xs ≡ Ok ys → xs ≡ ys
read_is None xs ys e = list_is xs ys e
read_is (Some fault) xs ys e = absurd (never_list fault ys e)

pub read_then : (r : Result (List ℕ) MemFault) (f : List ℕ → Result (ℕ × DataSpace) MemFault) (x : ℕ × DataSpace)
    → with_read r f ≡ Ok x → (xs : List ℕ) × (r ≡ Ok xs) × (f xs ≡ Ok x)
read_then (Ok xs) f x e = (xs, refl, e)
read_then (Err fault) f x e = absurd (never_answer fault x e)

-- ---- the data region

pub record IsMoved (m after : DataSpace) (a : ℕ) : Type 0 where
  pub from : data_start ≤ a
  pub to : a ≤ data_limit
  pub is : record m { here = a } ≡ after

here_if : (b : Bool) (m after : DataSpace) (a : ℕ) → (if b then Ok (record m { here = a }) else Err Full) ≡ Ok after
    → (b ≡ true) × (record m { here = a } ≡ after)
here_if true m after a e = (refl, space_is (record m { here = a }) after e)
here_if false m after a e = absurd (never_space Full after e)

pub moved_is : (m after : DataSpace) (a : ℕ) → with_here m a ≡ Ok after → IsMoved m after a
moved_is m after a e =
    let is = here_if (nat_le data_start a && nat_le a data_limit) m after a e in
    let both = and_parts (nat_le data_start a) (nat_le a data_limit) is.0 in
    record { from = leb-true data_start a both.0; to = leb-true a data_limit both.1; is = is.1 }

pub record IsAppended (m after : DataSpace) (xs : List ℕ) : Type 0 where
  pub to : m.here + length xs ≤ data_limit
  pub is : record (written m m.here xs) { here = m.here + length xs } ≡ after

pub appended_is : (m after : DataSpace) (xs : List ℕ) (at : ℕ) → appended m xs ≡ Ok (at, after)
    → IsAppended m after xs
appended_is m after xs at e =
    let new = record (written m m.here xs) { here = m.here + length xs } in
    let is = answer_if (nat_le (m.here + length xs) data_limit) m.here new (at, after) e in
    record { to = leb-true (m.here + length xs) data_limit is.0; is = is.1 }

pub record IsZeroed (m after : DataSpace) (n : ℕ) : Type 0 where
  pub to : aligned m.here + n ≤ data_limit
  pub is : with_zeros m n ≡ after

pub zeroed_is : (m after : DataSpace) (n at : ℕ) → zeros_allotted m n ≡ Ok (at, after) → IsZeroed m after n
zeroed_is m after n at e =
    let a = aligned m.here in
    let is = answer_if (nat_le (a + n) data_limit) a (with_zeros m n) (at, after) e in
    record { to = leb-true (a + n) data_limit is.0; is = is.1 }

-- ---- the property region

pub record IsPut (m after : DataSpace) (xs : List ℕ) : Type 0 where
  pub to : aligned m.properties_end + length xs ≤ property_limit
  pub is :
      record (written m (aligned m.properties_end) xs) { properties_end = aligned m.properties_end + length xs }
      ≡ after

pub put_is : (m : DataSpace) (xs : List ℕ) (x : ℕ × DataSpace) → property_put m xs ≡ Ok x → IsPut m x.1 xs
put_is m xs x e =
    let a = aligned m.properties_end in
    let new = record (written m a xs) { properties_end = a + length xs } in
    let is = answer_if (nat_le (a + length xs) property_limit) a new x e in
    record { to = leb-true (a + length xs) property_limit is.0; is = is.1 }

-- a name, and a value behind it
pub record ArePut (m after : DataSpace) (name value : List ℕ) : Type 0 where
  pub between : DataSpace
  pub first : IsPut m between name
  pub second : IsPut between after value

never_two : (f : MemFault) (x : ℕ × ℕ × DataSpace) → ◌≡◌ {A = Result (ℕ × ℕ × DataSpace) MemFault} (Err f) (Ok x) → ⊥
never_two f x e = cc

two_is : (x y : ℕ × ℕ × DataSpace) → ◌≡◌ {A = Result (ℕ × ℕ × DataSpace) MemFault} (Ok x) (Ok y) → x.2 ≡ y.2
two_is x y e = let all : ◌≡◌ {A = ℕ × ℕ × DataSpace} x y = cc in ap (λ (z : ℕ × ℕ × DataSpace). z.2) all

value_is : (r : Result (ℕ × DataSpace) MemFault) (m between : DataSpace) (name value : List ℕ) (a : ℕ)
    (y : ℕ × ℕ × DataSpace) → IsPut m between name → property_put between value ≡ r → with_name a r ≡ Ok y
    → ArePut m y.2 name value
value_is (Ok x) m between name value a y first g e =
    rw (← two_is (a, x.0, x.1) y e) (record {
      between = between;
      first = first;
      second = put_is between value x g;
    })
value_is (Err f) m between name value a y first g e = absurd (never_two f y e)

name_is : (r : Result (ℕ × DataSpace) MemFault) (m : DataSpace) (name value : List ℕ) (y : ℕ × ℕ × DataSpace)
    → property_put m name ≡ r → value_put value r ≡ Ok y → ArePut m y.2 name value
name_is (Ok x) m name value y g e =
    value_is (property_put x.1 value) m x.1 name value x.0 y (put_is m name x g) refl e
name_is (Err f) m name value y g e = absurd (never_two f y e)

pub named_is : (m after : DataSpace) (name value : List ℕ) (at behind : ℕ)
    → named_put m name value ≡ Ok (at, behind, after) → ArePut m after name value
named_is m after name value at behind e = name_is (property_put m name) m name value (at, behind, after) refl e

-- ---- the image region

pub record IsPushed (m after : DataSpace) (xs : List ℕ) : Type 0 where
  pub to : free_after m.images + length xs ≤ image_limit
  pub few : length m.images < image_count
  pub is :
      record (written m (free_after m.images) xs) { images = (free_after m.images + length xs) ∷ m.images } ≡ after

pub pushed_is : (m after : DataSpace) (xs : List ℕ) (at : ℕ) → image_pushed m xs ≡ Ok (at, after)
    → IsPushed m after xs
pushed_is m after xs at e =
    let a = free_after m.images in
    let new = record (written m a xs) { images = (a + length xs) ∷ m.images } in
    let fits = nat_le (a + length xs) image_limit in
    let few = nat_lt (length m.images) image_count in
    let is = answer_if (fits && few) a new (at, after) e in
    let both = and_parts fits few is.0 in
    record {
      to = leb-true (a + length xs) image_limit both.0;
      few = ltb-true (length m.images) image_count both.1;
      is = is.1;
    }

-- ---- blocks

abbrev fits_at : ℕ → List Block → ℕ → ℕ → Bool
fits_at high bs size a = nat_le (a + size) high && meets_none bs size a

eighth_if : (b : Bool) (high : ℕ) (bs : List Block) (size low n a : ℕ) → low % 8 ≡ 0 → fits_at high bs size low ≡ b
    → (if b then Some low else first_of_eighths (fits_at high bs size) (low + 8) n) ≡ Some a
    → (first_of_eighths (fits_at high bs size) (low + 8) n ≡ Some a → IsFree (low + 8) high bs size a)
    → IsFree low high bs size a
eighth_if true high bs size low n a eighth h e rest =
    let both = and_parts (nat_le (low + size) high) (meets_none bs size low) h in
    rw (← same_some low a e) (record {
      aligned = eighth;
      from = omega arith;
      to = leb-true (low + size) high both.0;
      apart = both.1;
    })
eighth_if false high bs size low n a eighth h e rest =
    let f = rest e in
    record { aligned = f.aligned; from = omega (arith, f.from); to = f.to; apart = f.apart }

first_free : (n high : ℕ) (bs : List Block) (size low a : ℕ) → low % 8 ≡ 0
    → first_of_eighths (fits_at high bs size) low n ≡ Some a → IsFree low high bs size a
first_free zero high bs size low a eighth e = absurd (none_some a e)
first_free (suc n) high bs size low a eighth e =
    eighth_if (fits_at high bs size low) high bs size low n a eighth refl e
    (λ f. first_free n high bs size (low + 8) a (omega (arith, eighth)) f)

-- the least free address is free
least_is : (low high : ℕ) (bs : List Block) (size a : ℕ) → low % 8 ≡ 0 → least_free low high bs size ≡ Some a
    → IsFree low high bs size a
unfolding least_free
least_is low high bs size a eighth e = first_free ((high - low) / 8) high bs size low a eighth e

both_are : (x y : ℕ × DataSpace) → ◌≡◌ {A = Result (ℕ × DataSpace) MemFault} (Ok x) (Ok y) → x ≡ y
both_are x y e = cc

-- a block that was taken for n bytes at the address
abbrev pub block_for : ℕ → ℕ → Block
block_for at n = record { at = at; size = rounded n }

pub record IsHeapTaken (m : DataSpace) (n : ℕ) (x : ℕ × DataSpace) : Type 0 where
  pub free : IsFree heap_start heap_limit m.heap (rounded n) x.0
  pub is :
      record (written m x.0 (replicate (rounded n) 0)) { heap = with_block (block_for x.0 n) m.heap } ≡ x.1

heap_of : (o : Option ℕ) (m : DataSpace) (n : ℕ) (x : ℕ × DataSpace)
    → least_free heap_start heap_limit m.heap (rounded n) ≡ o
    → heap_zeroed m n (block_taken_at m.heap (rounded n) o) ≡ Ok x → IsHeapTaken m n x
heap_of (Some a) m n x g e =
    let new = record (written m a (replicate (rounded n) 0)) { heap = with_block (block_for a n) m.heap } in
    rw (← both_are (a, new) x e) (record {
      free = least_is heap_start heap_limit m.heap (rounded n) a refl g;
      is = refl;
    })
heap_of None m n x g e = absurd (never_answer Full x e)

pub heap_is : (m : DataSpace) (n : ℕ) (x : ℕ × DataSpace) → heap_taken m n ≡ Ok x → IsHeapTaken m n x
heap_is m n x e = heap_of (least_free heap_start heap_limit m.heap (rounded n)) m n x refl e

pub record IsInstanceTaken (m : DataSpace) (n : ℕ) (x : ℕ × DataSpace) : Type 0 where
  pub free : IsFree instance_start instance_limit m.instances (rounded n) x.0
  pub is :
      record (written m x.0 (replicate (rounded n) 0)) { instances = with_block (block_for x.0 n) m.instances } ≡ x.1

instance_of : (o : Option ℕ) (m : DataSpace) (n : ℕ) (x : ℕ × DataSpace)
    → least_free instance_start instance_limit m.instances (rounded n) ≡ o
    → instance_zeroed m n (block_taken_at m.instances (rounded n) o) ≡ Ok x → IsInstanceTaken m n x
instance_of (Some a) m n x g e =
    let new = record (written m a (replicate (rounded n) 0)) { instances = with_block (block_for a n) m.instances } in
    rw (← both_are (a, new) x e) (record {
      free = least_is instance_start instance_limit m.instances (rounded n) a refl g;
      is = refl;
    })
instance_of None m n x g e = absurd (never_answer Full x e)

pub instance_is : (m : DataSpace) (n : ℕ) (x : ℕ × DataSpace) → instance_taken m n ≡ Ok x → IsInstanceTaken m n x
instance_is m n x e = instance_of (least_free instance_start instance_limit m.instances (rounded n)) m n x refl e

-- what taking several leaves is what taking the first and then the others does
pub record IsFirst (m after : DataSpace) (n : Cell) (ns : List Cell) : Type 0 where
  pub first : ℕ × DataSpace
  pub others : List Cell
  pub taken : instance_taken m n.0 ≡ Ok first
  pub rest : instances_taken first.1 ns ≡ Ok (others, after)

several_of : (r : Result (ℕ × DataSpace) MemFault) (m after : DataSpace) (n : Cell) (ns at : List Cell)
    → instance_taken m n.0 ≡ r → taken_then r (λ between. instances_taken between ns) ≡ Ok (at, after)
    → IsFirst m after n ns
several_of (Ok x) m after n ns at g e =
    let rest = first_with (instances_taken x.1 ns) x.0 (at, after) e in
    rw (← rest.2) (record { first = x; others = rest.0.0; taken = g; rest = rest.1 })
several_of (Err f) m after n ns at g e = absurd (never_answers f (at, after) e)

pub several_is : (m after : DataSpace) (n : Cell) (ns at : List Cell) → instances_taken m (n ∷ ns) ≡ Ok (at, after)
    → IsFirst m after n ns
several_is m after n ns at e = several_of (instance_taken m n.0) m after n ns at refl e

-- a block fewer
heap_left_of : (o : Option ℕ) (m after : DataSpace) → heap_left m (block_given_at m.heap o) ≡ Ok after
    → (i : ℕ) × (record m { heap = remove m.heap i } ≡ after)
heap_left_of (Some i) m after e = (i, space_is (record m { heap = remove m.heap i }) after e)
heap_left_of None m after e = absurd (never_space BadBlock after e)

pub heap_given_is : (m after : DataSpace) (a n : ℕ) → heap_given m a n ≡ Ok after
    → (i : ℕ) × (record m { heap = remove m.heap i } ≡ after)
heap_given_is m after a n e = heap_left_of (position (is_block a (rounded n)) m.heap) m after e

instances_left_of : (o : Option ℕ) (m after : DataSpace) → instances_left m (block_given_at m.instances o) ≡ Ok after
    → (i : ℕ) × (record m { instances = remove m.instances i } ≡ after)
instances_left_of (Some i) m after e = (i, space_is (record m { instances = remove m.instances i }) after e)
instances_left_of None m after e = absurd (never_space BadBlock after e)

pub instance_given_is : (m after : DataSpace) (a n : ℕ) → instance_given m a n ≡ Ok after
    → (i : ℕ) × (record m { instances = remove m.instances i } ≡ after)
instance_given_is m after a n e = instances_left_of (position (is_block a (rounded n)) m.instances) m after e
