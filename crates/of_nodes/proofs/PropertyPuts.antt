-- Values that were put into the property region, and those that stand before them.
use Rattle.std.proofs.Common.{◌≡◌, ℕ, zero, suc, ◌+◌, ◌/◌, ◌%◌, ◌<◌, ◌≤◌, nat_le, nat_lt, not, Bool}
use Rattle.std.proofs.Math.Nat.{mod-one}
use Rattle.std.proofs.Common.{true, false, List, length, take, drop, Option, Some, None, Result, Ok, Err}
use Rattle.std.proofs.Common.{refl, ap, sym, ◌∙◌, inl, inr, arith, if◌then◌else◌}
use Rattle.std.proofs.lemmas.Bool.{cases_eq, leb-true, lt-ltb, ne_eqb}
use Rattle.std.proofs.lemmas.List.{places, same_lists}
use Rattle.of_memory.specs.Access.{all_from, are_readable, read_bytes, read_fault}
use Rattle.of_memory.specs.DataSpace.{DataSpace, bytes_from, is_readable, splice, written}
use Rattle.of_memory.specs.Growth.{aligned, property_put}
use Rattle.of_memory.specs.Regions.{byte_count, first_property, place_of, property_limit, property_start, region_of}
use Rattle.of_memory.specs.Regions.{span}
use Rattle.of_memory.specs.declared.fault.MemFault.{MemFault}
use Rattle.of_memory.specs.declared.fault.MemFault.TheVariants.{Address, Alignment, Full}
use Rattle.of_memory.specs.declared.width.Width.TheVariants.{One}

-- the property region can be read
byte_open : (m : DataSpace) (a : ℕ) → property_start ≤ a → a < property_limit → is_readable m a ≡ true
byte_open m a from to =
    let two : a / span ≡ 2 = omega arith in
    let region : region_of a ≡ region_of property_start = rw two refl in
    let small : nat_lt (a % span) 131072 ≡ true = lt-ltb (a % span) 131072 (omega arith) in
    rw (region, small) refl

region_open : (m : DataSpace) (a n : ℕ) → property_start ≤ a → a + n ≤ property_limit → are_readable m a n ≡ true
unfolding all_from
region_open m a zero from to = refl
region_open m a (suc n) from to =
    rw (byte_open m a from (omega arith), region_open m (suc a) n (omega arith) (omega arith)) refl

tested :
    (r : Bool) → r ≡ true
    → ◌≡◌ {A = Option MemFault} (if not r then Some Address else if not true then Some Alignment else None) None
tested true h = refl
tested false h = cc

no_fault : (m : DataSpace) (a n : ℕ) → property_start ≤ a → a + n ≤ property_limit → read_fault m a n One ≡ None
unfolding read_fault
no_fault m a n from to =
    elim (cases_eq n 0) [
      | inl z ↦ rw z refl
      | inr some ↦
          rw (ne_eqb n 0 some, mod-one a) (tested (are_readable m a n) (region_open m a n from to))
    ]

-- a value that stands in the property region
pub record IsStored (m : DataSpace) (a : ℕ) (xs : List ℕ) : Type 0 where
  pub from : first_property ≤ a
  pub to : a + length xs ≤ m.properties_end
  pub limit : a + length xs ≤ property_limit
  pub bytes : bytes_from m a (length xs) ≡ xs

pub stored_reads : (m : DataSpace) (a : ℕ) (xs : List ℕ) → IsStored m a xs → read_bytes m a (length xs) ≡ Ok xs
stored_reads m a xs s = rw (no_fault m a (length xs) (omega (arith, s.from)) s.limit) (ap Ok s.bytes)

-- a data space of all bytes, with values where they belong
pub record IsWide (m : DataSpace) : Type 0 where
  pub bytes : length m.bytes ≡ byte_count
  pub from : first_property ≤ m.properties_end

abbrev pub put_at : DataSpace → ℕ → List ℕ → DataSpace
put_at m a xs = record (written m a xs) { properties_end = a + length xs }

pub record IsPut (m after : DataSpace) (xs : List ℕ) (a : ℕ) : Type 0 where
  pub above : m.properties_end ≤ a
  pub after_is : after ≡ put_at m a xs
  pub fits : a + length xs ≤ property_limit

put_if :
    (t : Bool) (a : ℕ) (new : DataSpace) (x : ℕ × DataSpace)
    → ◌≡◌ {A = Result (ℕ × DataSpace) MemFault} (if t then Ok (a, new) else Err Full) (Ok x)
    → (t ≡ true) × (a ≡ x.0) × (new ≡ x.1)
put_if true a new x e =
    let pair : ◌≡◌ {A = ℕ × DataSpace} (a, new) x = cc in
    (refl, ap (λ (y : ℕ × DataSpace). y.0) pair, ap (λ (y : ℕ × DataSpace). y.1) pair)
put_if false a new x e = cc

above_end : (a : ℕ) → a ≤ aligned a
above_end a = omega arith

pub is_put : (m : DataSpace) (xs : List ℕ) (x : ℕ × DataSpace) → property_put m xs ≡ Ok x → IsPut m x.1 xs x.0
is_put m xs x e =
    let a = aligned m.properties_end in
    let all = put_if (nat_le (a + length xs) property_limit) a (put_at m a xs) x e in
    let fits : a + length xs ≤ property_limit = leb-true (a + length xs) property_limit all.0 in
    record {
      above = rw (← all.1) (above_end m.properties_end);
      after_is = sym all.2 ∙ ap (λ (k : ℕ). put_at m k xs) all.1;
      fits = rw (← all.1) fits;
    }

splice_length : (l ys : List ℕ) (i : ℕ) → i + length ys ≤ length l → length (splice l i ys) ≡ length l
splice_length l ys i fits = grind (arith, places)

read_back : (l ys : List ℕ) (i : ℕ) → i + length ys ≤ length l → take (length ys) (drop i (splice l i ys)) ≡ ys
read_back l ys i fits = same_lists _ _ (grind (arith, places)) (λ k d h. grind (arith, places))

read_before :
    (l ys : List ℕ) (i j n : ℕ) → j + n ≤ i → i + length ys ≤ length l
    → take n (drop j (splice l i ys)) ≡ take n (drop j l)
read_before l ys i j n apart fits = same_lists _ _ (grind (arith, places)) (λ k d h. grind (arith, places))

place_is : (a : ℕ) → property_start ≤ a → a ≤ property_limit → place_of a + property_start ≡ a + 262144
place_is a from to = omega arith

-- where the bytes of a value that is put stand
room :
    (m after : DataSpace) (xs : List ℕ) (a : ℕ) → IsWide m → IsPut m after xs a
    → place_of a + length xs ≤ length m.bytes
room m after xs a w p =
    let place = place_is a (omega (arith, w.from, p.above)) (omega (arith, p.fits)) in
    omega (arith, place, p.fits, w.bytes)

pub wide_after : (m after : DataSpace) (xs : List ℕ) (a : ℕ) → IsWide m → IsPut m after xs a → IsWide after
wide_after m after xs a w p =
    rw (p.after_is) record {
      bytes = splice_length m.bytes xs (place_of a) (room m after xs a w p) ∙ w.bytes;
      from = omega (arith, w.from, p.above);
    }

pub stored_after : (m after : DataSpace) (xs : List ℕ) (a : ℕ) → IsWide m → IsPut m after xs a → IsStored after a xs
stored_after m after xs a w p =
    rw (p.after_is) record {
      from = omega (arith, w.from, p.above);
      to = omega arith;
      limit = p.fits;
      bytes = read_back m.bytes xs (place_of a) (room m after xs a w p);
    }

pub stays_stored :
    (m after : DataSpace) (xs ys : List ℕ) (a b : ℕ) → IsWide m → IsPut m after xs a → IsStored m b ys
    → IsStored after b ys
stays_stored m after xs ys a b w p s =
    let here = place_is a (omega (arith, w.from, p.above)) (omega (arith, p.fits)) in
    let there = place_is b (omega (arith, s.from)) (omega (arith, s.limit)) in
    let apart : place_of b + length ys ≤ place_of a = omega (arith, here, there, s.to, p.above) in
    rw (p.after_is) record {
      from = s.from;
      to = omega (arith, s.to, p.above);
      limit = s.limit;
      bytes = read_before m.bytes xs (place_of a) (place_of b) (length ys) apart (room m after xs a w p) ∙ s.bytes;
    }

-- and so does each range of the region below its end
pub read_stays :
    (m after : DataSpace) (xs : List ℕ) (a b n : ℕ) → IsWide m → IsPut m after xs a → first_property ≤ b
    → b + n ≤ m.properties_end → read_bytes after b n ≡ read_bytes m b n
read_stays m after xs a b n w p from to =
    let start : property_start ≤ b = omega arith in
    let limit : b + n ≤ property_limit = omega (arith, p.above, p.fits) in
    let here = place_is a (omega (arith, w.from, p.above)) (omega (arith, p.fits)) in
    let there = place_is b start (omega (arith, limit)) in
    let apart : place_of b + n ≤ place_of a = omega (arith, here, there, p.above) in
    let put : bytes_from (put_at m a xs) b n ≡ bytes_from m b n =
    read_before m.bytes xs (place_of a) (place_of b) n apart (room m after xs a w p) in
    rw (p.after_is) (rw (no_fault (put_at m a xs) b n start limit, no_fault m b n start limit) (ap Ok put))
