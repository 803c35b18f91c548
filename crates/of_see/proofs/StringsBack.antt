-- Strings as they are printed, read again.
use Rattle.std.proofs.Common.{◌≡◌, ◌≢◌, ℕ, ◌<◌, ◌+◌, ◌*◌, ◌/◌, ◌%◌, Bool, true, false, nat_lt, List, [], ◌∷◌, ◌++◌}
use Rattle.std.proofs.Common.{Some, refl, ap, sym, ◌∙◌, arith, if◌then◌else◌}
use Rattle.std.specs.Char.{digit_char, digit_value as code_value}
use Rattle.std.specs.List.{All, AllByRecursion}
use Rattle.std.proofs.lemmas.Bool.{lt-ltb}
use Rattle.std.proofs.lemmas.List.{append_assoc, append-nil}
use Rattle.std.proofs.lemmas.List.Elements.{All-append, All-cons, All-nil, recursion_from_All}
use Rattle.std.proofs.lemmas.Str.{digit_value-digit_char}
use Rattle.of_format.specs.Digits.{digit_of, digit_value}
use Rattle.of_scan.specs.Groups.{HasNoGroup, QuotedPartsAreRead, SayBytes}
use Rattle.of_scan.specs.Parts.{quoted_part}
use Rattle.of_scan.specs.Scan.{byte_of}
use Rattle.of_scan.specs.Strings.{Byte}
use Rattle.of_see.specs.SeeText.{bytes_or_none, bytes_shown, is_plain, string_shown}
use Rattle.of_see.specs.Laws.{StringsReadBack}

-- a digit is read as what it stands for, and is no blank
digit_back : (d : ℕ) → d < 16 → digit_value 16 (digit_char d) ≡ Some d
unfolding digit_of
digit_back d l =
    let same : code_value (digit_char d) ≡ d = digit_value-digit_char d (omega (arith, l)) in
    let small : nat_lt d 36 ≡ true = lt-ltb d 36 (omega (arith, l)) in
    let less : nat_lt d 16 ≡ true = lt-ltb d 16 l in
    rw (same, small, less) refl

pub no_blank : (d : ℕ) → d < 16 → 0x20 < digit_char d
no_blank d l = by_test (nat_lt d 10)
  where
    by_test : (b : Bool) → 0x20 < (if b then 48 + d else 87 + d)
    by_test true = omega arith
    by_test false = omega arith

-- the two digits of a byte say it
says : (b : ℕ) → b < 256 → SayBytes (Byte b (digit_char (b / 16)) (digit_char (b % 16)) ∷ [])
says b l =
    let high = digit_back (b / 16) (omega (arith, l)) in
    let low = digit_back (b % 16) (omega arith) in
    let whole : b / 16 * 16 + b % 16 ≡ b = omega arith in (
      no_blank (b / 16) (omega (arith, l)),
      ap (λ h. byte_of h (digit_value 16 (digit_char (b % 16)))) high
          ∙ ap (λ d. byte_of (Some (b / 16)) d) low
          ∙ ap Some whole,
      tt,
    )

-- no group begins with a space
no_group : (more : List ℕ) → HasNoGroup (32 ∷ more)
no_group more ds behind says e = absurd cc

not_quote : (b : ℕ) → is_plain b ≡ true → b ≢ 34
not_quote b plain e = absurd (grind (arith, plain, e))

abbrev AreBytes : List ℕ → Type 0
AreBytes bytes = AllByRecursion (λ b. b < 256) bytes

-- a byte as it is, or as a group
abbrev byte_as : Bool → ℕ → List ℕ
byte_as plain b = if plain then b ∷ [] else 34 ∷ 40 ∷ digit_char (b / 16) ∷ digit_char (b % 16) ∷ 41 ∷ []

module _ (law : QuotedPartsAreRead) where
  -- bytes that were read as they are, and what is printed of the others
  read_on : (before bytes more : List ℕ) → All (λ b. b ≢ 34) before → AreBytes bytes
      → quoted_part (before ++ (bytes_shown bytes ++ 34 ∷ 32 ∷ more)) ≡ (before ++ bytes, 32 ∷ more)
  read_on before [] more solid small =
      law.ended before (32 ∷ more) solid (no_group more)
      ∙ ap (λ x. (x, 32 ∷ more)) (sym (append-nil before))
  read_on before (b ∷ bytes) more solid small =
      by_kind (is_plain b) refl (λ xs h. read_on xs bytes more h small.1)
    where
      rest : List ℕ
      rest = bytes_shown bytes ++ 34 ∷ 32 ∷ more

      by_kind : (plain : Bool) → is_plain b ≡ plain
          → ((xs : List ℕ) → All (λ b. b ≢ 34) xs → quoted_part (xs ++ rest) ≡ (xs ++ bytes, 32 ∷ more))
          → quoted_part (before ++ ((byte_as plain b ++ bytes_shown bytes) ++ 34 ∷ 32 ∷ more))
          ≡ (before ++ b ∷ bytes, 32 ∷ more)
      by_kind true plain read =
          ap quoted_part (sym (append_assoc before (b ∷ []) rest))
          ∙ read (before ++ b ∷ [])
          (All-append (λ b. b ≢ 34) before (b ∷ []) solid
          (All-cons (λ b. b ≢ 34) b [] (not_quote b plain) (All-nil (λ b. b ≢ 34))))
          ∙ ap (λ x. (x, 32 ∷ more)) (append_assoc before (b ∷ []) bytes)
      by_kind false plain read =
          law.group before (Byte b (digit_char (b / 16)) (digit_char (b % 16)) ∷ []) rest solid (says b small.0)
          ∙ ap (λ (x : List ℕ × List ℕ). ((before ++ b ∷ []) ++ x.0, x.1)) (read [] (All-nil (λ b. b ≢ 34)))
          ∙ ap (λ x. (x, 32 ∷ more)) (append_assoc before (b ∷ []) bytes)

pub strings_read_back : QuotedPartsAreRead → StringsReadBack
strings_read_back law n m self address count bytes read small = (
  bytes_shown bytes ++ 34 ∷ [],
  ap (λ r. string_shown (bytes_or_none r)) read,
  λ more.
      ap quoted_part (append_assoc (bytes_shown bytes) (34 ∷ []) (32 ∷ more))
      ∙ read_on law [] bytes more (All-nil (λ b. b ≢ 34)) (recursion_from_All (λ b. b < 256) bytes small),
)
