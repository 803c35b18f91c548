-- The numbers of own words by their execution tokens.
use Rattle.std.proofs.Common.{◌≡◌, ◌<◌, ◌-◌, ◌/◌, ◌%◌, ℕ, Bool, true, nat_eq, nat_le, nat_lt, ◌&&◌}
use Rattle.std.proofs.Common.{Option, Some, None, ap, ◌∙◌, arith, if◌then◌else◌}
use Rattle.std.proofs.lemmas.Bool.{and_from, and_parts, eq-eqb, eqb-true, false_from_ne_true, le-leb, leb-true, lt-ltb}
use Rattle.std.proofs.lemmas.Bool.{ltb-true}
use Rattle.of_dict.specs.Words.{capacity, xt_of}
use Rattle.of_compile.specs.Words.{own_number}

-- the tests of `own_number`
abbrev is_own : ℕ → Bool
is_own xt = nat_le (xt_of 0) xt && (nat_eq (xt % 4) 0 && nat_lt ((xt - xt_of 0) / 4) capacity)

abbrev own_if : Bool → ℕ → Option ℕ
own_if b xt = if b then Some ((xt - xt_of 0) / 4) else None

-- the number of an own word's execution token
pub own_is : (n xt : ℕ) → n < capacity → xt_of n ≡ xt → own_number xt ≡ Some n
own_is n xt small e =
    let q : (xt - xt_of 0) / 4 ≡ n = omega (arith, e) in
    let tests : is_own xt ≡ true =
    and_from (nat_le (xt_of 0) xt) (nat_eq (xt % 4) 0 && nat_lt ((xt - xt_of 0) / 4) capacity)
    (le-leb (xt_of 0) xt (omega (arith, e)))
    (and_from (nat_eq (xt % 4) 0) (nat_lt ((xt - xt_of 0) / 4) capacity) (eq-eqb (xt % 4) 0 (omega (arith, e)))
    (lt-ltb ((xt - xt_of 0) / 4) capacity (omega (arith, q, small)))) in
    ap (λ b. own_if b xt) tests ∙ ap (λ k. Some k) q

-- no own word's
pub own_none : (xt : ℕ) → ((n : ℕ) → n < capacity → xt_of n ≡ xt → ⊥) → own_number xt ≡ None
own_none xt h =
    ap (λ b. own_if b xt) (false_from_ne_true (is_own xt) (λ e.
    let parts = and_parts (nat_le (xt_of 0) xt) (nat_eq (xt % 4) 0 && nat_lt ((xt - xt_of 0) / 4) capacity) e in
    let more = and_parts (nat_eq (xt % 4) 0) (nat_lt ((xt - xt_of 0) / 4) capacity) parts.1 in
    let least = leb-true (xt_of 0) xt parts.0 in
    let even = eqb-true (xt % 4) 0 more.0 in
    h ((xt - xt_of 0) / 4) (ltb-true ((xt - xt_of 0) / 4) capacity more.1) (omega (arith, least, even))))
