-- Limits of steps, as text.
use Rattle.std.proofs.Common.{◌≡◌, ◌≢◌, ◌≤◌, ◌<◌, ◌*◌, ◌/◌, ◌^◌, ◌==◌, ◌++◌, ◌∷◌, ℕ, Bool, List, []}
use Rattle.std.proofs.Common.{Option, Some, None}
use Rattle.std.proofs.Common.{true, false, arith, refl, sym, ap, option_map, cond, unwrap_or, ◌∙◌, if◌then◌else◌}
use Rattle.std.proofs.lemmas.Bool.{eq-eqb, eqb-true}
use Rattle.std.specs.Borrow.{Bor}
use Rattle.std.specs.Prelude.{MatchOption}
use Rattle.std.specs.Str.Parse.{IsNumeral, digits_value, without_leading_plus}
use Rattle.clap.specs.ValueTests.{is_unsigned_in}
use Rattle.clap.specs.Words.{Text}
use Rattle.clap.specs.declared.builder.value_parser.ValueParser.TheVariants as value
use Rattle.clap.proofs.ValueTestLemmas.{Accepts-accepts, accepts-Accepts}
use Rattle.of_arguments.specs.CommandLine.{before_last, number_upto, times_before}

-- a text is a number of 64 bits
abbrev pub IsNumber : Text → Type 0
IsNumber text = IsNumeral 10 (without_leading_plus text) × (digits_value 10 (without_leading_plus text) < 2 ^ 64)

-- a number that was read and is small enough
pub small_read : (most n : ℕ) (text : Text) → IsNumber text × (n ≡ digits_value 10 (without_leading_plus text))
    → n ≤ most → Some n ≡ number_upto most text
small_read most n text number few =
    let test = Accepts-accepts false (value.Unsigned 0 most) text
    (number.0.0, number.0.1, omega arith, omega (arith, few, number.1)) in
    rw test (ap Some number.1)

-- one that isn't
pub large_read : (most n : ℕ) (text : Text) → IsNumber text × (n ≡ digits_value 10 (without_leading_plus text))
    → most < n → None ≡ number_upto most text
large_read most n text number many = go (is_unsigned_in 0 most text) refl
  where
    go : (t : Bool) → is_unsigned_in 0 most text ≡ t → None ≡ number_upto most text
    go false t = rw t refl
    go true t =
        let accepted = accepts-Accepts false (value.Unsigned 0 most) text t in
        absurd (omega (arith, many, number.1, accepted.3))

-- a text that is no number
pub none_read : (most : ℕ) (text : Text) → (IsNumber text → ⊥) → None ≡ number_upto most text
none_read most text number = go (is_unsigned_in 0 most text) refl
  where
    go : (t : Bool) → is_unsigned_in 0 most text ≡ t → None ≡ number_upto most text
    go false t = rw t refl
    go true t =
        let accepted = accepts-Accepts false (value.Unsigned 0 most) text t in
        absurd (number (accepted.0, accepted.1))

-- ---- the last byte

pub last_is : (b : ℕ) (front : Text) → before_last b (front ++ b ∷ []) ≡ Some front
last_is b [] = ap (λ (t : Bool). cond t (Some []) None) (eq-eqb b b refl)
last_is b (c ∷ []) = ap (option_map (λ front. c ∷ front)) (last_is b [])
last_is b (c ∷ d ∷ rest) = ap (option_map (λ front. c ∷ front)) (last_is b (d ∷ rest))

-- what was found before the last byte
back_by : (b c : ℕ) (t : Bool) (front : Text) → (c == b) ≡ t → (if t then Some [] else None) ≡ Some front
    → ◌≡◌ {A = List ℕ} (c ∷ []) (front ++ b ∷ [])
back_by b c true front e found =
    let none : [] ≡ front = ap (λ (o : Option Text). unwrap_or o front) found in
    let same : c ≡ b = eqb-true c b e in
    rw (← none, same) refl
back_by b c false front e found = absurd cc

back_behind : (b c : ℕ) (rest front : Text) (o : Option Text)
    → ((more : Text) → before_last b rest ≡ Some more → rest ≡ more ++ b ∷ []) → before_last b rest ≡ o
    → option_map (λ front. c ∷ front) o ≡ Some front → c ∷ rest ≡ front ++ b ∷ []
back_behind b c rest front None back e f = absurd cc
back_behind b c rest front (Some more) back e f =
    let same : c ∷ more ≡ front = ap (λ (o : Option Text). unwrap_or o front) f in
    rw (← same) (ap (λ l. c ∷ l) (back more e))

last_back : (b : ℕ) (text front : Text) → before_last b text ≡ Some front → text ≡ front ++ b ∷ []
last_back b [] front found = absurd cc
last_back b (c ∷ []) front found = back_by b c (c == b) front refl found
last_back b (c ∷ d ∷ rest) front found =
    back_behind b c (d ∷ rest) front (before_last b (d ∷ rest)) (λ more e. last_back b (d ∷ rest) more e) refl found

-- nothing is found where no such byte is the last
pub last_is_none : (b : ℕ) (text : Text) → ((front : Text) → text ≢ front ++ b ∷ []) → before_last b text ≡ None
last_is_none b text other = go (before_last b text) refl
  where
    go : (o : Option Text) → before_last b text ≡ o → before_last b text ≡ None
    go None e = e
    go (Some front) e = absurd (other front (last_back b text front e))

-- what a look for the last character finds
pub found_before : (b : ℕ) (text : Text) (r : Option (Bor (List ℕ)))
    → MatchOption r ((front : Text) → text ≢ front ++ b ∷ []) (λ x. text ≡ x.now ++ b ∷ [])
    → option_map (λ (x : Bor (List ℕ)). x.now) r ≡ before_last b text
found_before b text None h = sym (last_is_none b text h)
found_before b text (Some x) h = sym (ap (before_last b) h ∙ last_is b x.now)

-- nothing stands before it
pub no_times : (each b : ℕ) (text : Text) → None ≡ before_last b text → None ≡ times_before each b text
no_times each b text e = rw (← e) refl

-- a number does
pub so_many_times : (each b : ℕ) (text front : Text) (n : Option ℕ) → Some front ≡ before_last b text
    → n ≡ number_upto (1000000000 / each) front → option_map (λ n. n * each) n ≡ times_before each b text
so_many_times each b text front n e f = rw (← e, f) refl
