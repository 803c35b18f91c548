-- Searches from the newest number down, and along the words of one name.
use Rattle.std.proofs.Common.{◌≡◌, ℕ, zero, suc, ◌+◌, ◌<◌, ◌≤◌, Bool, true, false, cond, List, length, Option, Some}
use Rattle.std.proofs.Common.{None, IfSome}
use Rattle.std.proofs.Common.{get_or, ◌-◌, inl, inr, IsSome, refl, sym, ◌∙◌, ap, subst, arith, nat_eq}
use Rattle.std.specs.Char.{to_ascii_lowercase}
use Rattle.std.specs.Cmp.Lexicographic.{pointwise}
use Rattle.std.proofs.lemmas.List.{length-map}
use Rattle.std.proofs.lemmas.Bool.{cases_lt, false≢true}
use Rattle.std.proofs.lemmas.Bool.Decides.{Decides-eqb}
use Rattle.std.proofs.lemmas.Slice.Eq.{slice_eq-Decides}
use Rattle.of_dict.specs.declared.word.Word.{Word}
use Rattle.of_dict.specs.Words.{bears, capacity, found, has_key, is_hidden_in, is_named, lower, name_in}
use Rattle.of_dict.specs.Words.{newest_below, word_at}
use Rattle.arrayvec.specs.ArrayVec.{ArrayVec}
use Rattle.of_dict.specs.Index.{IsIndexed, IsNamed, bearer, left_from, visible_from}

-- a search by one test is that by another, where they agree below
pub newest_below-same : (p q : ℕ → Bool) (n : ℕ) → ((k : ℕ) → k < n → p k ≡ q k) → newest_below p n ≡ newest_below q n
newest_below-same p q zero h = refl
newest_below-same p q (suc n) h =
    rw (h n (omega arith), newest_below-same p q n (λ k l. h k (omega (arith, l)))) refl

-- what a search finds lies below
pub left_from-newest_below : (p : ℕ → Bool) (n : ℕ) → left_from (newest_below p n) ≤ n
left_from-newest_below p zero = omega arith
left_from-newest_below p (suc n) =
    let below = left_from-newest_below p n in
    elim (p n) as (λ b. left_from (cond b (Some n) (newest_below p n)) ≤ suc n) [
      | true ↦ omega arith
      | false
          ↦ omega (arith, below)
    ]

-- the newest word of a name has a number below the capacity
pub head_is_less :
    (words : List (Option Word)) (older : List (Option ℕ)) (newest : ArrayVec ℕ → Option ℕ) (key : ArrayVec ℕ)
    (head : Option ℕ) → IsIndexed words older newest → head ≡ newest key → IfSome head (λ n. n < capacity)
head_is_less words older newest key None indexed e = tt
head_is_less words older newest key (Some n) indexed e =
    let below = left_from-newest_below (has_key words key.items) (length words) in
    let less : left_from (Some n) ≤ length words = subst (λ o. left_from o ≤ length words)
    (sym (e ∙ indexed.heads key)) below in
    omega (arith, less, indexed.room)

pub same_key : (name key : List ℕ) → pointwise nat_eq (lower name) key ≡ true → lower name ≡ key
same_key name key e = (slice_eq-Decides Decides-eqb (lower name) key (pointwise nat_eq (lower name) key) refl).0 e

-- what it means that a key is a name's
pub named : (key : List ℕ) (name : Option (List ℕ)) → is_named key name ≡ true
    → (other : List ℕ) × (name ≡ Some other) × (key ≡ lower other)
named key None e = absurd (false≢true e)
named key (Some other) e =
    (other, refl, sym (same_key other key e))

pub is_named-self : (name : List ℕ) → is_named (lower name) (Some name) ≡ true
is_named-self name =
    (slice_eq-Decides Decides-eqb (lower name) (lower name) (pointwise nat_eq (lower name) (lower name)) refl).1 refl

-- the step of a search at the words of one name
pub is_bearer_of : (words : List (Option Word)) (name other : List ℕ) (n : ℕ) → lower name ≡ lower other
    → bears words name n ≡ bears words other n
is_bearer_of words name other n e = rw e refl

entered-step : (words : List (Option Word)) (name : List ℕ) (n : ℕ) (b : Bool) → has_key words (lower name) n ≡ b
    → newest_below (bears words name) n ≡ visible_from words (newest_below (has_key words (lower name)) n)
    → newest_below (bears words name) (suc n) ≡ visible_from words (cond b (Some n) (newest_below
    (has_key words (lower name)) n))
entered-step words name n false e below = rw e below
entered-step words name n true e below =
    let other = named (lower name) (name_in (word_at words n)) e in
    newest_below-same (bears words name) (bears words other.0) (suc n)
    (λ k l. is_bearer_of words name other.0 k other.2)
    ∙ sym (ap (bearer words n) other.1)

-- the newest word that bears a name is found along the words of that name
pub entered : (words : List (Option Word)) (name : List ℕ) (n : ℕ)
    → newest_below (bears words name) n ≡ visible_from words (newest_below (has_key words (lower name)) n)
entered words name zero = refl
entered words name (suc n) =
    entered-step words name n (has_key words (lower name) n) refl (entered words name n)

named-step : (words : List (Option Word)) (key : List ℕ) (n : ℕ) (b : Bool) → has_key words key n ≡ b
    → n < length words
    → IsNamed words (newest_below (has_key words key) n) → IsNamed words (cond b (Some n) (newest_below
    (has_key words key) n))
named-step words key n false e l below = below
named-step words key n true e l below =
    let other = named key (name_in (word_at words n)) e in (l, (other.0, other.1))

-- what a search by a name finds has a name
pub found_is_named : (words : List (Option Word)) (key : List ℕ) (n : ℕ) → n ≤ length words
    → IsNamed words (newest_below (has_key words key) n)
found_is_named words key zero h = tt
found_is_named words key (suc n) h =
    named-step words key n (has_key words key n) refl (omega (arith, h)) (found_is_named words key n (omega
    (arith, h)))

pub has_own_key : (words : List (Option Word)) (n : ℕ) (name : List ℕ) → name_in (word_at words n) ≡ Some name
    → has_key words (lower name) n ≡ true
has_own_key words n name e = ap (is_named (lower name)) e ∙ is_named-self name

bearer-shown : (words : List (Option Word)) (n : ℕ) (name : List ℕ) → name_in (word_at words n) ≡ Some name
    → is_hidden_in (word_at words n) ≡ false → visible_from words (Some n) ≡ Some n
bearer-shown words n name e shown = rw (e, has_own_key words n name e, shown) refl

bearer-hidden : (words : List (Option Word)) (n : ℕ) (name : List ℕ) → name_in (word_at words n) ≡ Some name
    → is_hidden_in (word_at words n) ≡ true → visible_from words (Some n) ≡ newest_below (bears words name) n
bearer-hidden words n name e hidden = rw (e, has_own_key words n name e, hidden) refl

-- from a hidden word on, what is found is found from the next older one of its name
pub visible_from-hidden : (words : List (Option Word)) (older : List (Option ℕ))
    (newest : ArrayVec ℕ → Option ℕ) (n : ℕ)
    → IsIndexed words older newest → IsNamed words (Some n) → is_hidden_in (word_at words n) ≡ true
    → visible_from words (Some n) ≡ visible_from words (get_or older n None)
visible_from-hidden words older newest n indexed named hidden =
    bearer-hidden words n named.1.0 named.1.1 hidden ∙ entered words named.1.0 n
    ∙ ap (visible_from words) (sym (indexed.chain n named.1.0 named.1.1))

pub older_is_named : (words : List (Option Word)) (older : List (Option ℕ)) (newest : ArrayVec ℕ → Option ℕ) (n : ℕ)
    → IsIndexed words older newest → IsNamed words (Some n) → IsNamed words (get_or older n None)
older_is_named words older newest n indexed named =
    rw (indexed.chain n named.1.0 named.1.1) (found_is_named words (lower named.1.0) n (omega (arith, named.0)))

pub older_is_less : (words : List (Option Word)) (older : List (Option ℕ)) (newest : ArrayVec ℕ → Option ℕ) (n : ℕ)
    → IsIndexed words older newest → IsNamed words (Some n) → left_from (get_or older n None) ≤ n
older_is_less words older newest n indexed named =
    rw (indexed.chain n named.1.0 named.1.1) (left_from-newest_below (has_key words (lower named.1.0)) n)

pub newest_below-none : (p : ℕ → Bool) (n : ℕ) → ((k : ℕ) → k < n → p k ≡ false) → newest_below p n ≡ None
newest_below-none p zero h = refl
newest_below-none p (suc n) h =
    rw (h n (omega arith)) (newest_below-none p n (λ k l. h k (omega (arith, l))))

pub not_true : (b : Bool) → (b ≡ true → ⊥) → b ≡ false
not_true false h = refl
not_true true h = absurd (h refl)

-- no word has a name that is too long
pub no_long_name : (words : List (Option Word)) (older : List (Option ℕ))
    (newest : ArrayVec ℕ → Option ℕ) (name : List ℕ)
    (n : ℕ) → IsIndexed words older newest → 31 < length name → newest_below (has_key words (lower name)) n ≡ None
no_long_name words older newest name n indexed long =
    newest_below-none (has_key words (lower name)) n (λ k _. not_true (has_key words (lower name) k) (λ e.
    let other = named (lower name) (name_in (word_at words k)) e in
    let short = indexed.names k other.0 other.1 in
    omega (
      arith,
      long,
      short,
      ap length other.2,
      length-map name to_ascii_lowercase,
      length-map other.0 to_ascii_lowercase,
    )))

-- a name is found along the words of that name
pub found-entered : (words : List (Option Word)) (name : List ℕ)
    → found words name ≡ visible_from words (newest_below (has_key words (lower name)) (length words))
found-entered words name = entered words name (length words)

nothing_found : (n : ℕ) → None ≡ Some n → ⊥
nothing_found n e = cc

found-step : (p : ℕ → Bool) (m n : ℕ) (b : Bool) → p m ≡ b
    → (newest_below p m ≡ Some n → (n < m) × (p n ≡ true) × ((k : ℕ) → n < k → k < m → p k ≡ false))
    → cond b (Some m) (newest_below p m) ≡ Some n
    → (n < suc m) × (p n ≡ true) × ((k : ℕ) → n < k → k < suc m → p k ≡ false)
found-step p m n true at below e =
    let same : m ≡ n = cc in
    (omega (arith, same), subst (λ j. p j ≡ true) same at, λ k l h. absurd (omega (arith, l, h, same)))
found-step p m n false at below e =
    let f = below e in (
      omega (arith, f.0),
      f.1,
      λ k l h. elim (cases_lt k m) [
        | inl small ↦ f.2 k l small
        | inr large ↦ let same : m ≡ k = omega (arith, h, large) in subst (λ j. p j ≡ false) same at
      ],
    )

-- what is found passes, and nothing above it does
pub newest_below-found : (p : ℕ → Bool) (m n : ℕ) → newest_below p m ≡ Some n
    → (n < m) × (p n ≡ true) × ((k : ℕ) → n < k → k < m → p k ≡ false)
newest_below-found p zero n e = absurd (nothing_found n e)
newest_below-found p (suc m) n e = found-step p m n (p m) refl (newest_below-found p m n) e

skip-step : (p : ℕ → Bool) (m : ℕ) (found : Option ℕ) → p m ≡ false → newest_below p m ≡ found
    → newest_below p (suc m) ≡ found
skip-step p m found at below = rw at below

-- numbers that don't pass can be left out at the top
pub newest_below-skip : (p : ℕ → Bool) (n d : ℕ) → ((k : ℕ) → n ≤ k → k < n + d → p k ≡ false)
    → newest_below p (n + d) ≡ newest_below p n
newest_below-skip p n zero h = ap (newest_below p) (omega arith)
newest_below-skip p n (suc d) h =
    let more : n + suc d ≡ suc (n + d) = omega arith in
    ap (newest_below p) more ∙ skip-step p (n + d) (newest_below p n) (h (n + d) (omega arith) (omega arith))
    (newest_below-skip p n d (λ k l u. h k l (omega (arith, u))))

some-step : (n : ℕ) (b : Bool) (below : Option ℕ) → IsSome below → IsSome (cond b (Some n) below)
some-step n true below some = refl
some-step n false below some = some

-- a search over a number that passes finds one
pub newest_below-some : (p : ℕ → Bool) (n m : ℕ) → n < m → p n ≡ true → IsSome (newest_below p m)
newest_below-some p n zero l at = absurd (omega (arith, l))
newest_below-some p n (suc m) l at = elim (cases_lt n m) [
  | inl below ↦ some-step m (p m) (newest_below p m) (newest_below-some p n m below at)
  | inr above ↦ let same : n ≡ m = omega (arith, l, above) in
      let last : p m ≡ true = subst (λ k. p k ≡ true) same at in rw last refl
]

-- an older word that bears a word's name is found from the next older one of its name on
pub borne_before : (words : List (Option Word)) (older : List (Option ℕ)) (newest : ArrayVec ℕ → Option ℕ) (n : ℕ)
    (name : List ℕ) → IsIndexed words older newest → name_in (word_at words n) ≡ Some name
    → newest_below (bears words name) n ≡ visible_from words (get_or older n None)
borne_before words older newest n name indexed e =
    entered words name n ∙ ap (visible_from words) (sym (indexed.chain n name e))

-- what is found is the only number that passes with none above it
pub newest_below-is : (p : ℕ → Bool) (n m : ℕ) → n < m → p n ≡ true → ((k : ℕ) → n < k → k < m → p k ≡ false)
    → newest_below p m ≡ Some n
newest_below-is p n m l at above =
    let whole : m ≡ suc n + (m - suc n) = omega (arith, l) in
    let last : newest_below p (suc n) ≡ Some n = rw at refl in
    ap (newest_below p) whole
    ∙ newest_below-skip p (suc n) (m - suc n) (λ k a b. above k (omega (arith, a)) (omega (arith, b, l))) ∙ last
