-- Numbers behind `h#`, read again.
use Rattle.std.proofs.Common.{◌≡◌, ℕ, zero, suc, ◌<◌, ◌^◌, ◌*◌, ◌/◌, ◌%◌, Bool, true, false, nat_lt, List, [], ◌∷◌}
use Rattle.std.proofs.Common.{◌++◌, length, Ok, refl, ap, sym, ◌∙◌, arith, if◌then◌else◌}
use Rattle.std.specs.Char.{digit_char}
use Rattle.std.specs.List.{All}
use Rattle.std.specs.Option.{ok_or}
use Rattle.std.proofs.lemmas.Bool.{lt-ltb}
use Rattle.std.proofs.lemmas.List.Elements.{All-append, All-cons, All-nil}
use Rattle.std.proofs.Math.Nat.{pow-succ'}
use Rattle.of_stacks.specs.Throws.{undefined_word}
use Rattle.of_format.specs.Digits.{digits, double_text, unsigned_text}
use Rattle.of_format.specs.Reading.{ReadsBack}
use Rattle.of_scan.specs.Words.{IsWord}
use Rattle.of_text.specs.Names.{number_named}
use Rattle.of_see.specs.SeeText.{count_shown, number_shown}
use Rattle.of_see.specs.Laws.{IsReadAsNumber}
use Rattle.of_see.proofs.StringsBack.{no_blank}

-- ---- digits are a word

one_solid : (d : ℕ) → d < 16 → All (λ b. 0x20 < b) (digit_char d ∷ [])
one_solid d l = All-cons (λ b. 0x20 < b) (digit_char d) [] (no_blank d l) (All-nil (λ b. 0x20 < b))

solid : (more n : ℕ) → All (λ b. 0x20 < b) (digits more 16 n)
unfolding digits
solid zero n = one_solid (n % 16) (omega arith)
solid (suc more) n = by_test (nat_lt n 16) (solid more (n / 16))
  where
    last : List ℕ
    last = digit_char (n % 16) ∷ []

    by_test : (t : Bool) → All (λ b. 0x20 < b) (digits more 16 (n / 16))
        → All (λ b. 0x20 < b) (if t then last else digits more 16 (n / 16) ++ last)
    by_test true others = one_solid (n % 16) (omega arith)
    by_test false others =
        All-append (λ b. 0x20 < b) (digits more 16 (n / 16)) last others (one_solid (n % 16) (omega arith))

with_last : (bytes : List ℕ) (b : ℕ) → 0 < length (bytes ++ b ∷ [])
with_last [] b = omega arith
with_last (a ∷ bytes) b = omega arith

some_digits : (more n : ℕ) → 0 < length (digits more 16 n)
unfolding digits
some_digits zero n = omega arith
some_digits (suc more) n = by_test (nat_lt n 16)
  where
    last : List ℕ
    last = digit_char (n % 16) ∷ []

    by_test : (t : Bool) → 0 < length (if t then last else digits more 16 (n / 16) ++ last)
    by_test true = omega arith
    by_test false = with_last (digits more 16 (n / 16)) (digit_char (n % 16))

digits_word : (more n : ℕ) → IsWord (digits more 16 n)
digits_word more n = (some_digits more n, solid more n)

-- ---- a number has the same digits however many it might have

smaller : (a n : ℕ) → n < 16 ^ suc (suc a) → n / 16 < 16 ^ suc a
smaller a n l =
    let e : 16 ^ suc (suc a) ≡ 16 * 16 ^ suc a = pow-succ' 16 (suc a) in
    omega (arith, l, e)

one_digit : (b n : ℕ) → n < 16 ^ 1 → digits 0 16 n ≡ digits (suc b) 16 n
unfolding digits
one_digit b n l =
    let one : 16 ^ 1 ≡ 16 = refl in
    let test : nat_lt n 16 ≡ true = lt-ltb n 16 (omega (arith, l, one)) in
    ap (λ t. if t then digit_char (n % 16) ∷ [] else digits b 16 (n / 16) ++ digit_char (n % 16) ∷ []) (sym test)

same_digits : (a b n : ℕ) → n < 16 ^ suc a → n < 16 ^ suc b → digits a 16 n ≡ digits b 16 n
unfolding digits
same_digits zero zero n h k = refl
same_digits zero (suc b) n h k = one_digit b n h
same_digits (suc a) zero n h k = sym (one_digit a n k)
same_digits (suc a) (suc b) n h k = by_test (nat_lt n 16) (same_digits a b (n / 16) (smaller a n h) (smaller b n k))
  where
    last : List ℕ
    last = digit_char (n % 16) ∷ []

    by_test : (t : Bool) → digits a 16 (n / 16) ≡ digits b 16 (n / 16)
        → (if t then last else digits a 16 (n / 16) ++ last) ≡ (if t then last else digits b 16 (n / 16) ++ last)
    by_test true same = refl
    by_test false same = ap (λ ds. ds ++ last) same

-- ---- numbers

read_back : ReadsBack → (x : ℕ) → x < 2 ^ 32 → number_named (Ok 16) (unsigned_text 16 x) ≡ Ok (record { 0 = x })
read_back law x l =
    ap (λ o. ok_or o undefined_word) (law.unsigned 16 (record { 0 = x }) (omega arith) (omega arith) l)

pub number_back : ReadsBack → (x : ℕ) → x < 2 ^ 32 → IsReadAsNumber x (number_shown x)
number_back law x l = (unsigned_text 16 x, refl, digits_word 31 x, read_back law x l)

pub count_back : ReadsBack → (x : ℕ) → x < 2 ^ 32 → IsReadAsNumber x (count_shown x)
count_back law x l =
    let few : 16 ^ 32 ≡ 2 ^ 128 = refl in
    let many : 16 ^ 64 ≡ 2 ^ 256 = refl in
    let same : double_text 16 x ≡ unsigned_text 16 x =
    same_digits 63 31 x (omega (arith, l, many)) (omega (arith, l, few)) in (
      double_text 16 x,
      refl,
      digits_word 63 x,
      ap (λ ds. number_named (Ok 16) ds) same ∙ read_back law x l,
    )
