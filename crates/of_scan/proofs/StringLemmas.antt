-- Strings and comments up to a byte.
use Rattle.std.proofs.Common.{◌≡◌, ◌≢◌, ℕ, Bool, true, false, List, [], ◌∷◌, ◌++◌, Some, None, nat_eq, refl}
use Rattle.std.proofs.Common.{ap, ◌∙◌, arith, if◌then◌else◌}
use Rattle.std.proofs.lemmas.Bool.Decides.{nat_tests}
use Rattle.std.proofs.lemmas.List.Elements.{All-head, All-nil, All-cons, All-tail}
use Rattle.of_scan.specs.Scan.{Found, byte_before, up_to, behind_blank, plain_string}
use Rattle.of_scan.specs.Strings.{IsWithin}
use Rattle.of_scan.specs.Laws.{StringsAreRead, IsFoundIn}
use Rattle.of_scan.proofs.Scanning.{passed}

same_byte : (b : ℕ) → nat_eq b b ≡ true
same_byte b = grind (arith, nat_tests)

same_number : (a b : ℕ) → nat_eq a b ≡ true → a ≡ b
same_number a b h = grind (arith, nat_tests)

differs : (a b : ℕ) → nat_eq a b ≡ false → a ≢ b
differs a b h = grind (arith, nat_tests)

is_other : (a b : ℕ) → a ≢ b → nat_eq a b ≡ false
is_other a b h = grind (arith, nat_tests)

-- ---- what is written is found

up_to_there : (end : ℕ) (bytes more : List ℕ) → IsWithin end bytes
    → up_to end (bytes ++ end ∷ more) ≡ Some (bytes, more)
up_to_there end [] more h = let e : nat_eq end end ≡ true = same_byte end in rw e refl
up_to_there end (b ∷ bytes) more h =
    let w = All-head (λ c. (c ≢ end) × (c ≢ 10)) b bytes h in
    passed end b (bytes ++ end ∷ more) w.0 w.1
    ∙ ap (byte_before b) (up_to_there end bytes more (All-tail (λ c. (c ≢ end) × (c ≢ 10)) b bytes h))

past_blank : (b : ℕ) (text : List ℕ) → b ≢ 10 → behind_blank (b ∷ text) ≡ text
past_blank b text h = let e : nat_eq b 10 ≡ false = is_other b 10 h in rw e refl

-- ---- what is found is written

abbrev FoundUpTo : ℕ → List ℕ → Found → Type 0
FoundUpTo end text None = Unit {0}
FoundUpTo end text (Some r) = (text ≡ r.0 ++ end ∷ r.1) × IsWithin end r.0

up_byte : (end b : ℕ) (text : List ℕ) (x y : Bool) (f : Found) → nat_eq b end ≡ x → nat_eq b 10 ≡ y
    → FoundUpTo end text f
    → FoundUpTo end (b ∷ text) (if x then Some ([], text) else if y then None else byte_before b f)
up_byte end b text true y f e d h =
    (ap (λ c. c ∷ text) (same_number b end e), All-nil (λ c. (c ≢ end) × (c ≢ 10)))
up_byte end b text false true f e d h = tt
up_byte end b text false false None e d h = tt
up_byte end b text false false (Some r) e d h = (
  ap (λ t. b ∷ t) h.0,
  All-cons (λ c. (c ≢ end) × (c ≢ 10)) b r.0 (differs b end e, differs b 10 d) h.1,
)

up_to_found : (end : ℕ) (text : List ℕ) → FoundUpTo end text (up_to end text)
up_to_found end [] = tt
up_to_found end (b ∷ text) =
    up_byte end b text (nat_eq b end) (nat_eq b 10) (up_to end text) refl refl (up_to_found end text)

found_if : (end b : ℕ) (text : List ℕ) (f : Found) → b ≢ 10 → FoundUpTo end text f → IsFoundIn end (b ∷ text) f
found_if end b text None n h = tt
found_if end b text (Some r) n h = (b, ap (λ t. b ∷ t) h.0, n, h.1)

no_end : (b end : ℕ) → b ≡ 10 → end ≢ 10 → nat_eq b end ≡ false
no_end b end e n = grind (arith, nat_tests)

found_byte : (end b : ℕ) (text : List ℕ) (x : Bool) → nat_eq b 10 ≡ x → end ≢ 10
    → IsFoundIn end (b ∷ text) (up_to end (if x then b ∷ text else text))
found_byte end b text true e n =
    let m : nat_eq b end ≡ false = no_end b end (same_number b 10 e) n in
    rw (m, e) tt
found_byte end b text false e n = found_if end b text (up_to end text) (differs b 10 e) (up_to_found end text)

found : (end : ℕ) (text : List ℕ) → end ≢ 10 → IsFoundIn end text (plain_string end text)
found end [] n = tt
found end (b ∷ text) n = found_byte end b text (nat_eq b 10) refl n

pub strings_are_read : StringsAreRead
strings_are_read = record {
  there = λ end b bytes more n h.
      ap (up_to end) (past_blank b (bytes ++ end ∷ more) n) ∙ up_to_there end bytes more h;
  found = λ end text n. found end text n;
}
