-- The data space as a map from address to byte.
use Rattle.std.proofs.Common.{◌≡◌, ℕ, ◌+◌, ◌*◌, ◌-◌, ◌<◌, ◌≤◌, nat_le, nat_lt, Bool, true, false, ◌&&◌, inl, inr, List}
use Rattle.std.proofs.Common.{[], ◌∷◌, length, get_or, take, drop, Some, add-zero, refl, sym, ap, ◌∙◌, arith}
use Rattle.std.proofs.lemmas.Grind.{common_steps}
use Rattle.std.proofs.lemmas.List.{places}
use Rattle.std.proofs.lemmas.Bool.{cases_lt}
use Rattle.of_memory.specs.Regions.{place_of, byte_count}
use Rattle.of_memory.specs.DataSpace.{DataSpace, byte_at, bytes_from, is_readable, written, splice}
use Rattle.of_memory.specs.Access.{IsPlaced, are_readable, every, spread_over}
use Rattle.of_memory.specs.Laws.{map_with, WritesChangeTheirBytes, ReadsGiveTheBytes, SpreadsGiveTheBytes}
use Rattle.of_memory.proofs.AllFrom.{all_true, all_at}
use Rattle.of_memory.proofs.Readable.{range_placed}
use Rattle.of_memory.proofs.Nothing.{written_none}
use Rattle.of_memory.proofs.Spread.{over_some, every_at, place_within}

-- an element of a list with other elements in it
splice_within :
    (xs ys : List ℕ) (i k : ℕ) → i + length ys ≤ length xs → k < length ys
    → get_or (splice xs i ys) (i + k) 0 ≡ get_or ys k 0
splice_within xs ys i k fits l = grind (arith, places)

splice_below :
    (xs ys : List ℕ) (i k : ℕ) → i + length ys ≤ length xs → k < i → get_or (splice xs i ys) k 0 ≡ get_or xs k 0
splice_below xs ys i k fits l = grind (arith, places)

splice_above :
    (xs ys : List ℕ) (i k : ℕ) → i + length ys ≤ length xs → i + length ys ≤ k
    → get_or (splice xs i ys) k 0 ≡ get_or xs k 0
splice_above xs ys i k fits l = grind (arith, places)

part_at : (xs : List ℕ) (p n k : ℕ) → k < n → get_or (take n (drop p xs)) k 0 ≡ get_or xs (p + k) 0
part_at xs p n k l = grind (arith, places)

-- a byte that can be read stands in a region
placed : (m : DataSpace) (x : ℕ) → is_readable m x ≡ true → IsPlaced x 1
placed m x e =
    range_placed m x 1 (all_true (is_readable m) x 1 (λ k l. let z : k ≡ 0 = omega arith in rw (z, add-zero) e))
    (omega arith)

inside : (a n x : ℕ) → a ≤ x → x < a + n → (nat_le a x && nat_lt x (a + n)) ≡ true
inside a n x l h = grind (arith, common_steps)

under : (a n x : ℕ) → x < a → (nat_le a x && nat_lt x (a + n)) ≡ false
under a n x l = grind (arith, common_steps)

over : (a n x : ℕ) → a + n ≤ x → (nat_le a x && nat_lt x (a + n)) ≡ false
over a n x l = grind (arith, common_steps)

-- a byte outside what is written
kept :
    (m : DataSpace) (a x : ℕ) (ys : List ℕ)
    → (is_readable m x ≡ true → get_or (splice m.bytes (place_of a) ys) (place_of x) 0 ≡ get_or m.bytes (place_of x) 0)
    → byte_at (written m a ys) x ≡ byte_at m x
kept m a x ys h = go (is_readable m x) refl
  where
    go : (b : Bool) → is_readable m x ≡ b → byte_at (written m a ys) x ≡ byte_at m x
    go true e = rw e (ap Some (h e))
    go false e = rw e refl

byte_at-written :
    (m : DataSpace) (a x : ℕ) (ys : List ℕ) → length m.bytes ≡ byte_count → 0 < length ys
    → are_readable m a (length ys) ≡ true → byte_at (written m a ys) x ≡ map_with m a ys x
byte_at-written m a x ys room some e =
    let at = range_placed m a (length ys) e some in
    let fits : place_of a + length ys ≤ length m.bytes = omega (arith, at.some, at.last, at.within) in
    elim (cases_lt x a) [
      | inl l ↦ kept m a x ys (λ r. let p = placed m x r in splice_below m.bytes ys (place_of a) (place_of x) fits
          (omega (arith, p.some, p.within, at.some))) ∙ sym (rw (under a (length ys) x l) refl)
      | inr ge ↦ elim (cases_lt x (a + length ys)) [
        | inl l ↦
            let same : a + (x - a) ≡ x = omega arith in
            let r : is_readable m x ≡ true =
            rw same at (all_at (is_readable m) a (length ys) (x - a) e (omega arith)) in
            let place : place_of x ≡ place_of a + (x - a) = omega (arith, at.some, at.within) in
            let value : get_or (splice m.bytes (place_of a) ys) (place_of x) 0 ≡ get_or ys (x - a) 0 =
            rw place (splice_within m.bytes ys (place_of a) (x - a) fits (omega arith)) in
            rw (r, inside a (length ys) x ge l) (ap Some value)
        | inr l ↦ kept m a x ys (λ r. let p = placed m x r in splice_above m.bytes ys (place_of a) (place_of x) fits
            (omega (arith, p.some, p.within, at.some))) ∙ sym (rw (over a (length ys) x l) refl)
      ]
    ]

nothing_written : (m : DataSpace) (a x : ℕ) → byte_at (written m a []) x ≡ map_with m a [] x
nothing_written m a x =
    ap (λ s. byte_at s x) (written_none m a)
    ∙ elim (cases_lt x a) [
      | inl l ↦ sym (rw (under a 0 x l) refl)
      | inr l ↦ sym (rw (over a 0 x (omega arith)) refl)
    ]

pub writes_change_their_bytes : WritesChangeTheirBytes
writes_change_their_bytes m a [] x sound e = nothing_written m a x
writes_change_their_bytes m a (y ∷ ys) x sound e = byte_at-written m a x (y ∷ ys) sound.bytes (omega arith) e

pub reads_give_the_bytes : ReadsGiveTheBytes
reads_give_the_bytes m a n k e l =
    let at = range_placed m a n e (omega arith) in
    let r : is_readable m (a + k) ≡ true = all_at (is_readable m) a n k e l in
    let place : place_of (a + k) ≡ place_of a + k = omega (arith, at.some, at.within) in
    let value : get_or m.bytes (place_of (a + k)) 0 ≡ get_or (bytes_from m a n) k 0 =
    rw place (sym (part_at m.bytes (place_of a) n k l)) in
    rw r (ap Some value)

pub spreads_give_the_bytes : SpreadsGiveTheBytes
spreads_give_the_bytes m a n s k e l =
    let over : spread_over n s ≡ (n - 1) * s + 1 = over_some n s (omega arith) in
    let at = range_placed m a (spread_over n s) e (omega arith) in
    let in_it : a + k * s < a + spread_over n s = place_within a n s k l in
    let r : is_readable m (a + k * s) ≡ true = all_at (is_readable m) a (spread_over n s) (k * s) e (omega arith) in
    let place : place_of (a + k * s) ≡ place_of a + k * s = omega (arith, at.some, at.within) in
    let value : get_or m.bytes (place_of (a + k * s)) 0 ≡ get_or (every m.bytes (place_of a) n s) k 0 =
    rw place (sym (every_at m.bytes (place_of a) n s k l)) in
    rw r (ap Some value)
