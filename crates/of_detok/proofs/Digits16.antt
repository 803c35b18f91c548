-- Digits read back.
use Rattle.std.proofs.Common.{◌≡◌, ℕ, ◌+◌, ◌*◌, ◌/◌, ◌%◌, ◌<◌, List, [], ◌∷◌, ◌++◌, codes, Some, true, false, nat_eq}
use Rattle.std.proofs.Common.{nat_lt, length, refl, arith}
use Rattle.std.proofs.lemmas.Bool.Decides.{nat_tests}
use Rattle.std.specs.List.{AllByRecursion}
use Rattle.std.specs.Char.{digit_char}
use Rattle.std.proofs.lemmas.Str.{digit_value-digit_char}
use Rattle.std.specs.Str.{bytes_eq, str_to_ascii_lowercase, str_eq_ignore_ascii_case}
use Rattle.of_detok.specs.Digits.{digits, digit_value, pairs, place}
use Rattle.of_detok.specs.Reading.{are_spaces, paired}

-- a digit has its value
pub value_digit : (d : ℕ) → d < 16 → digit_value (digit_char d) ≡ Some d
value_digit d h =
    let value = digit_value-digit_char d (omega arith) in
    let small : nat_lt d 16 ≡ true = grind (arith, nat_tests) in
    rw (value, small) refl

no_space : (a b : ℕ) → are_spaces (digit_char a) b ≡ false
no_space a b = let no : nat_eq (digit_char a) 0x20 ≡ false = grind (arith, nat_tests) in rw no refl

-- bytes are read from their digits
pub paired-pairs : (bytes label : List ℕ) → AllByRecursion (λ b. b < 256) bytes
    → paired (pairs bytes ++ (codes "  " ++ label)) ≡ Some bytes
unfolding pairs paired
paired-pairs [] label h = refl
paired-pairs (b ∷ bytes) label h =
    let low : b < 256 = h.0 in
    let high_value = value_digit (b / 16) (omega arith) in
    let low_value = value_digit (b % 16) (omega arith) in
    let byte : b / 16 * 16 + b % 16 ≡ b = omega arith in
    rw (no_space (b / 16) (digit_char (b % 16)), high_value, low_value, paired-pairs bytes label h.1, byte) refl

-- a place has eight bytes
pub length-place : (before : ℕ) → length (place before) ≡ 8
unfolding place digits
length-place before = refl

same_bytes : (xs : List ℕ) → bytes_eq xs xs ≡ true
same_bytes [] = refl
same_bytes (x ∷ xs) = let e : nat_eq x x ≡ true = grind (arith, nat_tests) in rw e (same_bytes xs)

-- a text is itself
pub same_text : (xs : List ℕ) → str_eq_ignore_ascii_case xs xs ≡ true
same_text xs = same_bytes (str_to_ascii_lowercase xs)
