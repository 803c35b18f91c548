-- Own words: one more, and one changed.
use Rattle.std.proofs.Common.{◌≡◌, ℕ, zero, suc, Bool, List, [], ◌∷◌, ◌++◌, length, Option, Some, None, is_some}
use Rattle.std.proofs.Common.{if◌then◌else◌, refl, ◌∙◌, ap, arith, length-append, ◌<◌, ◌≤◌, ◌%◌, ◌/◌, ◌-◌, ◌&&◌, true}
use Rattle.std.proofs.Common.{nat_eq, nat_le, nat_lt, take}
use Rattle.std.proofs.lemmas.List.{take_at}
use Rattle.std.proofs.lemmas.Bool.{and_from, and_parts, eq-eqb, eqb-true, false_from_ne_true, le-leb, leb-true, lt-ltb}
use Rattle.std.proofs.lemmas.Bool.{ltb-true}
use Rattle.std.specs.Prelude.{slice_set, slice_index_or}
use Rattle.of_fcodes.specs.Tokens.{Table, entry_in}
use Rattle.of_dict.specs.declared.word.Word.{Word}
use Rattle.of_dict.specs.Words.{capacity, name_in, newest, newest_below, word_at, xt_of}
use Rattle.of_dict.specs.Calls.{changed, changed_in}
use Rattle.of_compile.specs.Words.{own_number}

set-push : {A : Type 0} (xs : List A) (y z : A) → slice_set (xs ++ y ∷ []) (length xs) z ≡ xs ++ z ∷ []
set-push [] y z = refl
set-push (x ∷ xs) y z = ap (λ l. x ∷ l) (set-push xs y z)

pub at-push : {A : Type 0} (xs : List A) (y d : A) → slice_index_or (xs ++ y ∷ []) (length xs) d ≡ y
at-push [] y d = refl
at-push (x ∷ xs) y d = at-push xs y d

-- the word that was added is changed
pub changed_pushed : (f : Word → Word) (words : List (Option Word)) (w : Word)
    → changed f (words ++ Some w ∷ []) (length words) ≡ words ++ Some (f w) ∷ []
changed_pushed f words w =
    rw (at-push words (Some w) None) (set-push words (Some w) (Some (f w)))

pub same_below : (p q : ℕ → Bool) (n : ℕ) → ((k : ℕ) → p k ≡ q k) → newest_below p n ≡ newest_below q n
same_below p q zero h = refl
same_below p q (suc n) h = rw (h n, same_below p q n h) refl

some-in : (f : Word → Word) (w : Option Word) → is_some (changed_in f w) ≡ is_some w
some-in f None = refl
some-in f (Some w) = refl

some-changed : (f : Word → Word) (words : List (Option Word)) (n k : ℕ)
    → is_some (word_at (changed f words n) k) ≡ is_some (word_at words k)
some-changed f [] n k = refl
some-changed f (w ∷ words) zero zero = some-in f w
some-changed f (w ∷ words) zero (suc k) = refl
some-changed f (w ∷ words) (suc n) zero = refl
some-changed f (w ∷ words) (suc n) (suc k) = some-changed f words n k

length-changed : (f : Word → Word) (words : List (Option Word)) (n : ℕ) → length (changed f words n) ≡ length words
length-changed f [] n = refl
length-changed f (w ∷ words) zero = refl
length-changed f (w ∷ words) (suc n) = ap (λ l. suc l) (length-changed f words n)

-- a change takes no word away
pub newest_changed : (f : Word → Word) (words : List (Option Word)) (n : ℕ) → newest (changed f words n) ≡ newest words
newest_changed f words n =
    rw (length-changed f words n)
    (same_below (λ k. is_some (word_at (changed f words n) k)) (λ k. is_some (word_at words k)) (length words)
    (some-changed f words n))

-- the word that was added is the newest
pub newest_pushed : (words : List (Option Word)) (w : Word) → newest (words ++ Some w ∷ []) ≡ Some (length words)
newest_pushed words w =
    let len : length (words ++ Some w ∷ []) ≡ suc (length words) = omega (arith, length-append words (Some w ∷ [])) in
    rw (len, at-push words (Some w) None) refl

-- the word that was added has its name
pub name_pushed : (words : List (Option Word)) (w : Word)
    → name_in (word_at (words ++ Some w ∷ []) (length words)) ≡ w.name
name_pushed words w = ap name_in (at-push words (Some w) None)

-- the word that was added is taken back
pub taken_back : (words : List (Option Word)) (w : Option Word)
    → take (length (words ++ w ∷ []) - 1) (words ++ w ∷ []) ≡ words
taken_back words w =
    let len : length (words ++ w ∷ []) - 1 ≡ length words = omega (arith, length-append words (w ∷ [])) in
    ap (λ n. take n (words ++ w ∷ [])) len ∙ take_at words (w ∷ []) (length words) refl

-- what adding a word of a name, or one of a slot, stands on
pub ruleset word_added = (newest_pushed, changed_pushed, name_pushed)

pub ruleset slot_word_added = (newest_pushed, taken_back, name_pushed)

-- the tests of `own_number`
abbrev is_own : ℕ → Bool
is_own xt = nat_le (xt_of 0) xt && (nat_eq (xt % 4) 0 && nat_lt ((xt - xt_of 0) / 4) capacity)

abbrev own_if : Bool → ℕ → Option ℕ
own_if b xt = if b then Some ((xt - xt_of 0) / 4) else None

-- the number of an own word's execution token
pub own_is : (n xt : ℕ) → n < capacity → xt_of n ≡ xt → own_number xt ≡ Some n
own_is n xt small e =
    let q : (xt - xt_of 0) / 4 ≡ n = omega (arith, e) in
    let tests : is_own xt ≡ true =
    and_from (nat_le (xt_of 0) xt) (nat_eq (xt % 4) 0 && nat_lt ((xt - xt_of 0) / 4) capacity)
    (le-leb (xt_of 0) xt (omega (arith, e)))
    (and_from (nat_eq (xt % 4) 0) (nat_lt ((xt - xt_of 0) / 4) capacity) (eq-eqb (xt % 4) 0 (omega (arith, e)))
    (lt-ltb ((xt - xt_of 0) / 4) capacity (omega (arith, q, small)))) in
    ap (λ b. own_if b xt) tests ∙ ap (λ k. Some k) q

-- no own word's
pub own_none : (xt : ℕ) → ((n : ℕ) → n < capacity → xt_of n ≡ xt → ⊥) → own_number xt ≡ None
own_none xt h =
    ap (λ b. own_if b xt) (false_from_ne_true (is_own xt) (λ e.
    let parts = and_parts (nat_le (xt_of 0) xt) (nat_eq (xt % 4) 0 && nat_lt ((xt - xt_of 0) / 4) capacity) e in
    let more = and_parts (nat_eq (xt % 4) 0) (nat_lt ((xt - xt_of 0) / 4) capacity) parts.1 in
    let least = leb-true (xt_of 0) xt parts.0 in
    let even = eqb-true (xt % 4) 0 more.0 in
    h ((xt - xt_of 0) / 4) (ltb-true ((xt - xt_of 0) / 4) capacity more.1) (omega (arith, least, even))))

-- behind the end of the table nothing is assigned
pub no_entry : (t : Table) (n : ℕ) → length t ≤ n → entry_in t n ≡ None
no_entry [] n l = refl
no_entry (e ∷ t) zero l = absurd (omega (arith, l))
no_entry (e ∷ t) (suc n) l = no_entry t n (omega (arith, l))

-- a change leaves a word its name
pub name_changed : (f : Word → Word) (words : List (Option Word)) (n : ℕ) → ((w : Word) → (f w).name ≡ w.name)
    → name_in (word_at (changed f words n) n) ≡ name_in (word_at words n)
name_changed f [] n h = refl
name_changed f (None ∷ words) zero h = refl
name_changed f (Some w ∷ words) zero h = h w
name_changed f (w ∷ words) (suc n) h = name_changed f words n h
