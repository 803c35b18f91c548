-- The names that `words` prints, one behind the other.
use Rattle.std.proofs.Common.{◌≡◌, ◌<◌, ◌≤◌, ℕ, zero, suc, Bool, true, false, nat_eq, List, [], ◌∷◌, ◌++◌}
use Rattle.std.proofs.Common.{length, map, take, Option, Some, None, refl, ap, sym, ◌∙◌, arith, inl, inr, option_map}
use Rattle.std.proofs.Common.{option_and_then, slice_get, if◌then◌else◌, length-append}
use Rattle.std.specs.List.{cons_option}
use Rattle.std.proofs.lemmas.Bool.{cases_lt, eqb-true, eq-eqb, false_from_ne_true, false≢true}
use Rattle.std.proofs.lemmas.List.{append_assoc, append-nil, get_or_past, map-append}
use Rattle.of_dict.specs.declared.word.Word.{Word}
use Rattle.of_dict.specs.Words.{capacity, name_in, newest_below, word_at, xt_of}
use Rattle.of_console.specs.Names.{name_with_xt, names_shown, shown_if}

-- ---- the word of an execution token

-- the one number that passes is found
only_below : (p : ℕ → Bool) (n m : ℕ) → p n ≡ true → ((k : ℕ) → p k ≡ true → k ≡ n) → n < m
    → newest_below p m ≡ Some n
only_below p n zero at only less = absurd (omega (arith, less))
only_below p n (suc m) at only less = step (λ below. only_below p n m at only below) (p m) refl
  where
    step : (n < m → newest_below p m ≡ Some n) → (b : Bool) → p m ≡ b
        → (if b then Some m else newest_below p m) ≡ Some n
    step others true e = ap Some (only m e)
    step others false e = elim (cases_lt n m) [
      | inl below ↦ others below
      | inr above ↦
          let same : m ≡ n = omega (arith, above, less) in
          absurd (false≢true (sym e ∙ ap p same ∙ at))
    ]

none_below : (p : ℕ → Bool) (m : ℕ) → ((k : ℕ) → k < m → p k ≡ false) → newest_below p m ≡ None
none_below p zero none = refl
none_below p (suc m) none =
    ap (λ b. if b then Some m else newest_below p m) (none m (omega arith))
    ∙ none_below p m (λ k less. none k (omega (arith, less)))

-- whether the own word of a number has an execution token
abbrev has_xt : ℕ → ℕ → Bool
has_xt xt n = nat_eq (xt_of n) xt

same_number : (n k xt : ℕ) → xt_of n ≡ xt → has_xt xt k ≡ true → k ≡ n
same_number n k xt e at = let other : xt_of k ≡ xt = eqb-true (xt_of k) xt at in omega (arith, e, other)

pub name_there : (words : List (Option Word)) (n xt : ℕ) → xt_of n ≡ xt
    → name_in (word_at words n) ≡ name_with_xt words xt
name_there words n xt e = elim (cases_lt n (length words)) [
  | inl less ↦
      ap (λ o. option_and_then (λ k. name_in (word_at words k)) o)
      (sym (only_below (has_xt xt) n (length words) (eq-eqb (xt_of n) xt e) (λ k at. same_number n k xt e at) less))
  | inr past ↦
      ap name_in (get_or_past words n None past)
      ∙ ap (λ o. option_and_then (λ k. name_in (word_at words k)) o)
      (sym (none_below (has_xt xt) (length words) (λ k less. false_from_ne_true (has_xt xt k) (λ at.
      omega (arith, same_number n k xt e at, less, past)))))
]

pub no_name : (words : List (Option Word)) (xt : ℕ) → length words ≤ capacity
    → ((n : ℕ) → n < capacity → xt_of n ≡ xt → ⊥) → None ≡ name_with_xt words xt
no_name words xt few none =
    ap (λ o. option_and_then (λ k. name_in (word_at words k)) o)
    (sym (none_below (has_xt xt) (length words) (λ k less. false_from_ne_true (has_xt xt k) (λ at.
    none k (omega (arith, few, less)) (eqb-true (xt_of k) xt at)))))

-- ---- the names of the dictionary

-- a name was appended, if there is one
pub goes_on : (out new all : List ℕ) (name : Option (List ℕ)) (names : List (List ℕ))
    → out ++ names_shown (cons_option name names) ≡ all → new ≡ out ++ shown_if name → new ++ names_shown names ≡ all
goes_on out new all None names e n = ap (λ x. x ++ names_shown names) (n ∙ append-nil out) ∙ e
goes_on out new all (Some name) names e n =
    ap (λ x. x ++ names_shown names) n
    ∙ append_assoc out (name ++ 32 ∷ []) (names_shown names)
    ∙ ap (λ x. out ++ x) (append_assoc name (32 ∷ []) (names_shown names))
    ∙ e

-- ---- the names of methods

module _ {E : Type 0} where
  named_next : (f : E → List ℕ) (es : List E) (k : ℕ) (name : List ℕ) → Some name ≡ option_map f (slice_get es k)
      → map f (take (suc k) es) ≡ map f (take k es) ++ name ∷ []
  named_next f [] k name h = absurd cc
  named_next f (e ∷ es) zero name h = let same : f e ≡ name = cc in ap (λ x. x ∷ []) same
  named_next f (e ∷ es) (suc k) name h = ap (λ l. f e ∷ l) (named_next f es k name h)

  none_next : (f : E → List ℕ) (es : List E) (k : ℕ) → None ≡ option_map f (slice_get es k)
      → map f (take k es) ≡ map f es
  none_next f [] zero h = refl
  none_next f [] (suc k) h = refl
  none_next f (e ∷ es) zero h = absurd cc
  none_next f (e ∷ es) (suc k) h = ap (λ l. f e ∷ l) (none_next f es k h)

  -- the next entry was named
  pub one_named : {A : Type 0} (now : A → List ℕ) (f : E → List ℕ) (es : List E) (names new : List A) (name : A)
      → new ≡ names ++ name ∷ [] → map now names ≡ map f (take (length names) es)
      → Some (now name) ≡ option_map f (slice_get es (length names)) → map now new ≡ map f (take (length new) es)
  one_named now f es names new name made done found =
      let more : length new ≡ suc (length names) =
      let sum = length-append names (name ∷ []) in omega (arith, ap length made, sum) in
      ap (map now) made ∙ map-append now names (name ∷ []) ∙ ap (λ l. l ++ now name ∷ []) done
      ∙ sym (named_next f es (length names) (now name) found) ∙ ap (λ k. map f (take k es)) (sym more)

  -- and there are no more
  pub all_named : {A : Type 0} (now : A → List ℕ) (f : E → List ℕ) (es : List E) (names : List A)
      → map now names ≡ map f (take (length names) es) → None ≡ option_map f (slice_get es (length names))
      → map now names ≡ map f es
  all_named now f es names done none = done ∙ none_next f es (length names) none
