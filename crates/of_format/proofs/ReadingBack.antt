-- The text of a number reads as the number.
use Rattle.std.proofs.Common.{◌≡◌, ◌≢◌, ℕ, zero, suc, ◌+◌, ◌-◌, ◌*◌, ◌/◌, ◌%◌, ◌^◌, ◌<◌, ◌≤◌, nat_lt, eqb}
use Rattle.std.proofs.Common.{true, false}
use Rattle.std.proofs.Common.{List, [], ◌∷◌, ◌++◌, length, length-append, pos, negsuc, inl, inr, Option, Some, None}
use Rattle.std.proofs.Common.{refl, ap, arith}
use Rattle.std.proofs.Math.Nat.{mul-le-mul_left, div-add-mod, mod-eq_of_lt, pow-succ'}
use Rattle.std.specs.Int.{w32}
use Rattle.std.proofs.lemmas.Int.{to_z_pos}
use Rattle.std.proofs.lemmas.Bool.{cases_lt}
use Rattle.std.proofs.lemmas.Bool.Decides.{nat_tests}
use Rattle.std.specs.Char.{digit_char}
use Rattle.std.proofs.lemmas.Str.{digit_value-digit_char}
use Rattle.of_cells.specs.declared.cells.Cell.{Cell}
use Rattle.of_cells.specs.Numbers.{cell, signed}
use Rattle.of_cells.specs.Splitting.{IsCell}
use Rattle.of_format.specs.Digits.{digit_of, digit_value, digits, number_text, unsigned_text}
use Rattle.of_format.specs.Reading.{with_digit, with_digits, at_most, digits_read, number_read, ReadsBack}
use Rattle.of_format.proofs.Numbers.{no_more_digits}

-- a digit's byte has its value
digit_back : (base d : ℕ) → d < base → base ≤ 36 → digit_value base (digit_char d) ≡ Some d
unfolding digit_of
digit_back base d l b =
    let value = digit_value-digit_char d (omega arith) in
    let small : nat_lt d 36 ≡ true = grind (arith, nat_tests) in
    let below : nat_lt d base ≡ true = grind (arith, nat_tests) in
    rw (value, small, below) refl

-- a minus sign is no digit
minus_digit : (base : ℕ) → digit_value base 45 ≡ None
unfolding digit_of
minus_digit base = refl

with_digits-append : (base : ℕ) (n : Option ℕ) (xs ys : List ℕ)
    → with_digits base n (xs ++ ys) ≡ with_digits base (with_digits base n xs) ys
with_digits-append base n [] ys = refl
with_digits-append base n (x ∷ xs) ys = with_digits-append base (with_digit base n (digit_value base x)) xs ys

-- one more digit
last_digit : (base n m : ℕ) (xs : List ℕ) → 2 ≤ base → base ≤ 36 → with_digits base (Some 0) xs ≡ Some m → m ≡ n / base
    → with_digits base (Some 0) (xs ++ digit_char (n % base) ∷ []) ≡ Some n
last_digit base n m xs low high e q =
    let d : digit_value base (digit_char (n % base)) ≡ Some (n % base) =
    digit_back base (n % base) (omega arith) high in
    let back : base * (n / base) + n % base ≡ n = div-add-mod n base in
    rw (with_digits-append base (Some 0) xs (digit_char (n % base) ∷ []), e, d, q) (ap Some (omega arith))

quotient_small : (base n p : ℕ) → 2 ≤ base → n < 2 * p → n / base < p
quotient_small base n p low l =
    let back : base * (n / base) + n % base ≡ n = div-add-mod n base in
    let twice : (n / base) * 2 ≤ (n / base) * base = mul-le-mul_left (n / base) low in
    omega arith

-- the digits of a number have its value
digits_back : (more base n : ℕ) → 2 ≤ base → base ≤ 36 → n < 2 ^ suc more
    → with_digits base (Some 0) (digits more base n) ≡ Some n
unfolding digits
digits_back zero base n low high l =
    let p : 2 ^ 1 ≡ 2 = refl in
    let small : n < base = omega arith in
    rw (mod-eq_of_lt small, digit_back base n small high) (ap Some (omega arith))
digits_back (suc more) base n low high l =
    elim (cases_lt n base) [
      | inl small ↦
          let test : nat_lt n base ≡ true = grind (arith, nat_tests) in
          rw (test, mod-eq_of_lt small, digit_back base n small high) (ap Some (omega arith))
      | inr large ↦
          let test : nat_lt n base ≡ false = grind (arith, nat_tests) in
          let twice : 2 ^ suc (suc more) ≡ 2 * 2 ^ suc more = pow-succ' 2 (suc more) in
          let less : n / base < 2 ^ suc more = quotient_small base n (2 ^ suc more) low (omega arith) in
          rw test (last_digit base n (n / base) (digits more base (n / base)) low high
          (digits_back more base (n / base) low high less) refl)
    ]

digits_some : (more base n : ℕ) → 0 < length (digits more base n)
unfolding digits
digits_some zero base n = omega arith
digits_some (suc more) base n =
    elim (cases_lt n base) [
      | inl small ↦ let test : nat_lt n base ≡ true = grind (arith, nat_tests) in rw test (omega arith)
      | inr large ↦
          let test : nat_lt n base ≡ false = grind (arith, nat_tests) in
          rw (test, length-append) (omega arith)
    ]

within : (limit n : ℕ) → n ≤ limit → at_most limit (Some n) ≡ Some n
within limit n l = grind (arith, nat_tests)

-- the number of a text of digits
digits_are_read : (base limit n : ℕ) (text : List ℕ) → 0 < length text → with_digits base (Some 0) text ≡ Some n
    → n ≤ limit → digits_read base limit text ≡ Some n
digits_are_read base limit n [] some e l = absurd (omega arith)
digits_are_read base limit n (char ∷ text) some e l = rw e (within limit n l)

-- a text of digits doesn't begin with a minus sign
no_minus : (base n char : ℕ) (text : List ℕ) → with_digits base (Some 0) (char ∷ text) ≡ Some n → char ≡ 45 → ⊥
no_minus base n char text e m =
    let none : with_digits base (Some 0) (char ∷ text) ≡ None = rw (m, minus_digit base) (no_more_digits base text) in
    cc

cell_back : (x : Cell) → IsCell x → cell x.0 ≡ x
cell_back x l = let e : x.0 % 2 ^ 32 ≡ x.0 = mod-eq_of_lt l in rw e refl

-- a text of digits reads as its number
unsigned_is_read : (base : ℕ) (x : Cell) (text : List ℕ) → 0 < length text → with_digits base (Some 0) text ≡ Some x.0
    → IsCell x → number_read base text ≡ Some x
unfolding number_read
unsigned_is_read base x [] some e l = absurd (omega arith)
unsigned_is_read base x (char ∷ text) some e l =
    let plain : char ≢ 45 = no_minus base x.0 char text e in
    let test : eqb char 45 ≡ false = grind (arith, nat_tests) in
    rw (test, e, within (2 ^ 32 - 1) x.0 (omega arith), cell_back x l) refl

-- a minus sign and a text of digits reads as the negative
negative_is_read : (base n : ℕ) (x : Cell) (text : List ℕ) → 0 < length text → with_digits base (Some 0) text ≡ Some n
    → n ≤ 2 ^ 31 → 0 < n → x.0 ≡ 2 ^ 32 - n → number_read base (45 ∷ text) ≡ Some x
unfolding number_read
negative_is_read base n x text some e l positive m =
    let small : n % 2 ^ 32 ≡ n = omega arith in
    let same : (2 ^ 32 - n) % 2 ^ 32 ≡ x.0 = omega arith in
    rw (digits_are_read base (2 ^ 31) n text some e l, small, same) refl

unsigned_back : (base : ℕ) (x : Cell) → 2 ≤ base → base ≤ 36 → IsCell x
    → number_read base (unsigned_text base x.0) ≡ Some x
unsigned_back base x low high l =
    unsigned_is_read base x (digits 31 base x.0) (digits_some 31 base x.0) (digits_back 31 base x.0 low high l) l

signed_back : (base : ℕ) (x : Cell) → 2 ≤ base → base ≤ 36 → IsCell x
    → number_read base (number_text base (signed x)) ≡ Some x
unfolding number_text
signed_back base x low high l =
    elim (cases_lt x.0 (2 ^ 31)) [
      | inl positive ↦
          let is : signed x ≡ pos x.0 = to_z_pos w32 x.0 positive in
          rw is (unsigned_back base x low high l)
      | inr negative ↦
          let n = 2 ^ 32 - x.0 in
          let test : nat_lt x.0 (2 ^ 31) ≡ false = grind (arith, nat_tests) in
          let is : signed x ≡ negsuc (n - 1) = rw test (ap negsuc (omega arith)) in
          let next : n - 1 + 1 ≡ n = omega arith in
          rw (is, next) (negative_is_read base n x (digits 31 base n) (digits_some 31 base n)
          (digits_back 31 base n low high (omega arith)) (omega arith) (omega arith) (omega arith))
    ]

pub texts_read_back : ReadsBack
texts_read_back = record { unsigned = unsigned_back; signed = signed_back }
