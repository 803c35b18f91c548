-- The laws of the dictionary.
use Rattle.std.proofs.Common.{◌≡◌, ◌≢◌, ℕ, zero, suc, ◌<◌, ◌≤◌, Bool, true, false, not, ◌&&◌, cond}
use Rattle.std.proofs.Common.{List, [], ◌∷◌, ◌++◌, length, set, Option, Some, None, IsSome, is_some}
use Rattle.std.proofs.Common.{get_or-set_other, get_or-set_same, ◌⊎◌, inl, inr, refl, sym, ◌∙◌, ap, arith}
use Rattle.std.proofs.Common.{length-append, option_and_then}
use Rattle.std.proofs.lemmas.List.{get_or_past, length-set}
use Rattle.std.proofs.lemmas.Bool.{cases_lt, false≢true}
use Rattle.of_dict.specs.declared.word.Kind.{Kind}
use Rattle.of_dict.specs.declared.word.Word.{Word}
use Rattle.of_dict.specs.Words.{bears, found, has_key, is_hidden_in, is_named, listed, lower, name_in, newest}
use Rattle.of_dict.specs.Words.{newest_below, spelling, word_at}
use Rattle.of_dict.specs.Calls.{changed_in, made, removed, without}
use Rattle.of_dict.specs.Laws.{ChangesAreFound, IsNewest, NamesAreListedOnce, NewestIsFound, with_hidden, with_name}
use Rattle.of_dict.specs.Laws.{with_revealed}
use Rattle.of_dict.proofs.Indexes.{above-taken, below-push, end-push, name_in-set, name_is_within}
use Rattle.of_dict.proofs.Searches.{has_own_key, named, newest_below-found, newest_below-is, newest_below-none}
use Rattle.of_dict.proofs.Searches.{newest_below-same}
use Rattle.of_dict.proofs.Searches.{newest_below-some, not_true, same_key, is_named-self, is_bearer_of}

none_some : (found : Option ℕ) → found ≡ None → IsSome found → ⊥
none_some None e some = absurd (false≢true some)
none_some (Some n) e some = cc

nat_cases : (k n : ℕ) → (k ≡ n) ⊎ (k ≢ n)
nat_cases k n = elim (cases_lt k n) [
  | inl less ↦ inr (omega (arith, less))
  | inr ge ↦ elim (cases_lt n k) [ inl more ↦ inr (omega (arith, more)) | inr le ↦ inl (omega (arith, ge, le)) ]
]

bears-past : (words : List (Option Word)) (name : List ℕ) (k : ℕ) → length words ≤ k → bears words name k ≡ false
bears-past words name k h =
    let past : word_at words k ≡ None = get_or_past words k None h in
    ap (λ w. is_named (lower name) (name_in w) && not (is_hidden_in w)) past

newest_found : (words : List (Option Word)) (name : List ℕ) (n : ℕ) → found words name ≡ Some n
    → IsNewest words name n
newest_found words name n e =
    let is = newest_below-found (bears words name) (length words) n e in
    record {
      within = is.0;
      borne = is.1;
      above = λ k l. elim (cases_lt k (length words)) [
        | inl small ↦ is.2 k l small
        | inr large ↦ bears-past words name k large
      ];
    }

is_found : (words : List (Option Word)) (name : List ℕ) (n : ℕ) → IsNewest words name n → found words name ≡ Some n
is_found words name n is = newest_below-is (bears words name) n (length words) is.within is.borne
    (λ k l _. is.above k l)

none_found : (words : List (Option Word)) (name : List ℕ) → found words name ≡ None → (k : ℕ)
    → bears words name k ≡ false
none_found words name e k = elim (cases_lt k (length words)) [
  | inl small ↦ not_true (bears words name k) (λ at.
      let some = newest_below-some (bears words name) k (length words) small at in
      absurd (none_some (found words name) e some))
  | inr large ↦ bears-past words name k large
]

pub newest_is_found : NewestIsFound
newest_is_found = record {
  newest = newest_found;
  is_found = is_found;
  no_word = none_found;
  is_no_word = λ words name h. newest_below-none (bears words name) (length words) (λ k _. h k);
  letters = λ words name other e.
      newest_below-same (bears words name) (bears words other) (length words)
      (λ k _. is_bearer_of words name other k e);
}

-- whether a word alone bears a name
abbrev bears_it : List ℕ → Option Word → Bool
bears_it name w = is_named (lower name) (name_in w) && not (is_hidden_in w)

-- what is found with one more word
found-push : (words : List (Option Word)) (w : Option Word) (name : List ℕ)
    → found (words ++ w ∷ []) name ≡ cond (bears_it name w) (Some (length words)) (found words name)
found-push words w name =
    let len : length (words ++ w ∷ []) ≡ suc (length words) = omega (arith, length-append words (w ∷ [])) in
    let last : bears (words ++ w ∷ []) name (length words) ≡ bears_it name w = ap (bears_it name)
    (end-push words w) in
    let below : newest_below (bears (words ++ w ∷ []) name) (length words) ≡ found words name =
    newest_below-same (bears (words ++ w ∷ []) name) (bears words name) (length words)
    (λ k l. ap (bears_it name) (below-push words w k l)) in
    rw (len, last, below) refl

and_not_true : (b : Bool) → (b && not true) ≡ false
and_not_true false = refl
and_not_true true = refl

made_bears : (name other : List ℕ) (kind : Kind) → lower name ≡ lower other
    → bears_it other (Some (made (Some name) kind)) ≡ true
made_bears name other kind e = rw (← e, is_named-self name) refl

made_is_other : (name other : List ℕ) (kind : Kind) → lower name ≢ lower other
    → bears_it other (Some (made (Some name) kind)) ≡ false
made_is_other name other kind ne =
    let no_key : is_named (lower other) (Some name) ≡ false = not_true (is_named (lower other) (Some name))
    (λ e. ne (same_key name (lower other) e)) in rw no_key refl

made_found : (words : List (Option Word)) (name other : List ℕ) (kind : Kind)
    → lower name ≡ lower other → found (with_name words name kind) other ≡ Some (length words)
made_found words name other kind e =
    found-push words (Some (made (Some name) kind)) other
    ∙ ap (λ b. cond b (Some (length words)) (found words other)) (made_bears name other kind e)

others_found : (words : List (Option Word)) (name other : List ℕ) (kind : Kind)
    → lower name ≢ lower other → found (with_name words name kind) other ≡ found words other
others_found words name other kind ne =
    found-push words (Some (made (Some name) kind)) other
    ∙ ap (λ b. cond b (Some (length words)) (found words other)) (made_is_other name other kind ne)

hidden-hides : (w : Option Word) (name : List ℕ) → bears_it name (changed_in (λ v. record v {
  hidden =
      true;
}) w) ≡ false
hidden-hides None name = refl
hidden-hides (Some w) name = and_not_true (is_named (lower name) w.name)

hidden_found : (words : List (Option Word)) (name : List ℕ) (n : ℕ)
    → found words name ≡ Some n → found (with_hidden words n) name ≡ newest_below (bears words name) n
hidden_found words name n e =
    let is = newest_found words name n e in
    let w = changed_in (λ v. record v { hidden = true }) (word_at words n) in
    let at : bears (with_hidden words n) name n ≡ false =
    ap (bears_it name) (get_or-set_same words n w None is.within) ∙ hidden-hides (word_at words n) name in
    let same : (k : ℕ) → k ≢ n → bears (with_hidden words n) name k ≡ bears words name k =
    λ k ne. ap (bears_it name) (get_or-set_other words n k w None ne) in
    ap (newest_below (bears (with_hidden words n) name)) (length-set words n w)
    ∙ above-taken (bears (with_hidden words n) name) n (length words) is.within at
    (λ k l _. let ne : k ≢ n = omega (arith, l) in same k ne ∙ is.above k l)
    ∙ newest_below-same (bears (with_hidden words n) name) (bears words name) n
    (λ k l. let ne : k ≢ n = omega (arith, l) in same k ne)

name_in-hidden : (w : Option Word) → name_in (changed_in (λ v. record v { hidden = true }) w) ≡ name_in w
name_in-hidden None = refl
name_in-hidden (Some w) = refl

not_named : (key : List ℕ) (w v : Option Word) → name_in v ≡ name_in w → is_named key (name_in w) ≡ false
    → (is_named key (name_in v) && not (is_hidden_in v)) ≡ (is_named key (name_in w) && not (is_hidden_in w))
not_named key w v e no_key = rw (e, no_key) refl

not_hidden_found : (words : List (Option Word)) (name : List ℕ) (n : ℕ)
    → has_key words (lower name) n ≡ false → found (with_hidden words n) name ≡ found words name
not_hidden_found words name n no_key =
    let w = changed_in (λ v. record v { hidden = true }) (word_at words n) in
    ap (newest_below (bears (with_hidden words n) name)) (length-set words n w)
    ∙ newest_below-same (bears (with_hidden words n) name) (bears words name) (length words)
    (λ k _. elim (nat_cases k n) [
      | inl same ↦ not_named (lower name) (word_at words k) (word_at (with_hidden words n) k)
          (name_in-set words n k w (name_in-hidden (word_at words n)))
          (ap (has_key words (lower name)) same ∙ no_key)
      | inr ne ↦ ap (bears_it name) (get_or-set_other words n k w None ne)
    ])

restored : (w : Option Word) → is_hidden_in w ≡ false
    → changed_in (λ v. record v { hidden = false }) (changed_in (λ v. record v { hidden = true }) w) ≡ w
restored None e = refl
restored (Some w) e = ap (λ h. Some (record w { hidden = h })) (sym e)

revealed_again : (words : List (Option Word)) (n : ℕ)
    → is_hidden_in (word_at words n) ≡ false → with_revealed (with_hidden words n) n ≡ words
revealed_again [] n e = refl
revealed_again (w ∷ ws) zero e = ap (λ v. v ∷ ws) (restored w e)
revealed_again (w ∷ ws) (suc n) e = ap (λ vs. w ∷ vs) (revealed_again ws n e)

set-last : (words : List (Option Word)) (w v : Option Word) → set (words ++ w ∷ []) (length words) v ≡ words ++ v ∷ []
set-last [] w v = refl
set-last (x ∷ xs) w v = ap (λ ws. x ∷ ws) (set-last xs w v)

removed_again : (words : List (Option Word)) (w : Word) → removed (words ++ Some w ∷ []) ≡ words ++ None ∷ []
removed_again words w =
    let more = words ++ Some w ∷ [] in
    let len : length more ≡ suc (length words) = omega (arith, length-append words (Some w ∷ [])) in
    let at : is_some (word_at more (length words)) ≡ true = ap is_some (end-push words (Some w)) in
    let is : newest_below (λ n. is_some (word_at more n)) (length more) ≡ Some (length words) = rw (len, at) refl in
    ap (without more) is ∙ set-last words (Some w) None

length-without : (words : List (Option Word)) (n : Option ℕ) → length (without words n) ≡ length words
length-without words None = refl
length-without words (Some n) = length-set words n None

pub changes_are_found : ChangesAreFound
changes_are_found = record {
  new_word = λ words name kind. end-push words (Some (made name kind));
  new_name = made_found;
  other_names = others_found;
  hidden_word = hidden_found;
  not_hidden = not_hidden_found;
  revealed_word = revealed_again;
  removed_word = removed_again;
  numbers_stay = λ words. length-without words (newest words);
  abandoned = λ words name. found-push words None name;
}

-- what it takes that a name is listed at a number
record IsListed (words : List (Option Word)) (n : ℕ) (name : List ℕ) : Type 0 where
  pub shown : is_hidden_in (word_at words n) ≡ false
  pub first : List ℕ
  pub own : name_in (word_at words n) ≡ Some first
  pub oldest : newest_below (bears words first) n ≡ None
  pub last : ℕ
  pub newest : found words first ≡ Some last
  pub spelt : name_in (word_at words last) ≡ Some name

no_list : (name : List ℕ) → None ≡ Some name → ⊥
no_list name e = cc

spelt_as : (words : List (Option Word)) (n : ℕ) (first name : List ℕ) (m : Option ℕ)
    → is_hidden_in (word_at words n) ≡ false → name_in (word_at words n) ≡ Some first
    → newest_below (bears words first) n ≡ None → found words first ≡ m
    → option_and_then (λ k. name_in (word_at words k)) m ≡ Some name → IsListed words n name
spelt_as words n first name None shown own oldest is e = absurd (no_list name e)
spelt_as words n first name (Some m) shown own oldest is e = record {
  shown = shown;
  first = first;
  own = own;
  oldest = oldest;
  last = m;
  newest = is;
  spelt = e;
}

listed_if : (words : List (Option Word)) (n : ℕ) (first name : List ℕ) (older : Option ℕ)
    → is_hidden_in (word_at words n) ≡ false → name_in (word_at words n) ≡ Some first
    → newest_below (bears words first) n ≡ older
    → cond (is_some older) None (option_and_then (λ m. name_in (word_at words m)) (found words first)) ≡ Some name
    → IsListed words n name
listed_if words n first name None shown own oldest e = spelt_as words n first name
    (found words first) shown own oldest refl e
listed_if words n first name (Some k) shown own oldest e = absurd (no_list name e)

named_if : (words : List (Option Word)) (n : ℕ) (name : List ℕ) (own : Option (List ℕ))
    → is_hidden_in (word_at words n) ≡ false → name_in (word_at words n) ≡ own
    → spelling words n own ≡ Some name → IsListed words n name
named_if words n name None shown own e = absurd (no_list name e)
named_if words n name (Some first) shown own e =
    listed_if words n first name (newest_below (bears words first) n) shown own refl e

shown_if : (words : List (Option Word)) (n : ℕ) (name : List ℕ) (b : Bool) → is_hidden_in (word_at words n) ≡ b
    → cond b None (spelling words n (name_in (word_at words n))) ≡ Some name → IsListed words n name
shown_if words n name false shown e = named_if words n name (name_in (word_at words n)) shown refl e
shown_if words n name true shown e = absurd (no_list name e)

is_listed : (words : List (Option Word)) (n : ℕ) (name : List ℕ) → listed words n ≡ Some name → IsListed words n name
is_listed words n name e = shown_if words n name (is_hidden_in (word_at words n)) refl e

-- and that it is then listed
listed_is : (words : List (Option Word)) (n m : ℕ) (first : List ℕ)
    → is_hidden_in (word_at words n) ≡ false → name_in (word_at words n) ≡ Some first
    → newest_below (bears words first) n ≡ None → found words first ≡ Some m
    → listed words n ≡ name_in (word_at words m)
listed_is words n m first shown own oldest newest = rw (shown, own, oldest, newest) refl

-- the parts of bearing a name
and_parts : (a b : Bool) → (a && not b) ≡ true → (a ≡ true) × (b ≡ false)
and_parts false b e = absurd (false≢true e)
and_parts true false e = (refl, refl)
and_parts true true e = absurd (false≢true e)

borne_parts : (words : List (Option Word)) (name : List ℕ) (n : ℕ) → bears words name n ≡ true
    → (has_key words (lower name) n ≡ true) × (is_hidden_in (word_at words n) ≡ false)
borne_parts words name n e = and_parts (has_key words (lower name) n) (is_hidden_in (word_at words n)) e

own_name : (words : List (Option Word)) (name own : List ℕ) (n : ℕ) → bears words name n ≡ true
    → name_in (word_at words n) ≡ Some own → lower own ≡ lower name
own_name words name own n e its =
    let key = (borne_parts words name n e).0 in
    same_key own (lower name) (sym (ap (is_named (lower name)) its) ∙ key)

bears_own : (words : List (Option Word)) (name : List ℕ) (n : ℕ) → is_hidden_in (word_at words n) ≡ false
    → name_in (word_at words n) ≡ Some name → bears words name n ≡ true
bears_own words name n shown own = rw (has_own_key words n name own, shown) refl

-- a listed name is the name of the word in whose place it stands
same_spelling : (words : List (Option Word)) (n : ℕ) (name : List ℕ) (l : IsListed words n name)
    → lower name ≡ lower l.first
same_spelling words n name l =
    own_name words l.first name l.last (newest_found words l.first l.last l.newest).borne l.spelt

listed_borne : (words : List (Option Word)) (n : ℕ) (name : List ℕ) → listed words n ≡ Some name
    → bears words name n ≡ true
listed_borne words n name e =
    let l = is_listed words n name e in
    is_bearer_of words name l.first n (same_spelling words n name l) ∙ bears_own words l.first n l.shown l.own

none_below : (p : ℕ → Bool) (n k : ℕ) → newest_below p n ≡ None → k < n → p k ≡ true → ⊥
none_below p n k none l at = none_some (newest_below p n) none (newest_below-some p k n l at)

listed_not_before : (words : List (Option Word)) (n m : ℕ) (a b : List ℕ)
    → listed words n ≡ Some a → listed words m ≡ Some b → lower a ≡ lower b → n < m → ⊥
listed_not_before words n m a b at bt e l =
    let later = is_listed words m b bt in
    let borne : bears words later.first n ≡ true =
    sym (is_bearer_of words a later.first n (e ∙ same_spelling words m b later)) ∙ listed_borne words n a at in
    none_below (bears words later.first) m n later.oldest l borne

listed_once : (words : List (Option Word)) (n m : ℕ) (a b : List ℕ)
    → listed words n ≡ Some a → listed words m ≡ Some b → lower a ≡ lower b → n ≡ m
listed_once words n m a b at bt e = elim (cases_lt n m) [
  | inl less ↦ absurd (listed_not_before words n m a b at bt e less)
  | inr ge ↦ elim (cases_lt m n) [
    | inl more ↦ absurd (listed_not_before words m n b a bt at (sym e) more)
    | inr le ↦ omega (arith, ge, le)
  ]
]

-- the oldest number that passes
oldest_if : (p : ℕ → Bool) (fuel n : ℕ) (older : Option ℕ) → n < suc fuel → p n ≡ true → newest_below p n ≡ older
    → (k : ℕ) × ((p k ≡ true) × (newest_below p k ≡ None))
oldest_if p fuel n None l at e = (n, (at, e))
oldest_if p zero n (Some k) l at e =
    let is = newest_below-found p n k e in absurd (omega (arith, is.0, l))
oldest_if p (suc fuel) n (Some k) l at e =
    let is = newest_below-found p n k e in
    oldest_if p fuel k (newest_below p k) (omega (arith, is.0, l)) is.1 refl

all_listed : (words : List (Option Word)) (name : List ℕ) (m : ℕ)
    → found words name ≡ Some m → (n : ℕ) × (listed words n ≡ name_in (word_at words m))
all_listed words name m e =
    let is = newest_found words name m e in
    let old = oldest_if (bears words name) m m (newest_below (bears words name) m) (omega arith) is.borne refl in
    let parts = borne_parts words name old.0 old.1.0 in
    let own = named (lower name) (name_in (word_at words old.0)) parts.0 in
    let same : (n : ℕ) → newest_below (bears words own.0) n ≡ newest_below (bears words name) n =
    λ n. newest_below-same (bears words own.0) (bears words name) n (λ k _. is_bearer_of words own.0 name k
    (sym own.2)) in
    (old.0, listed_is words old.0 m own.0 parts.1 own.1 (same old.0 ∙ old.1.1) (same (length words) ∙ e))

listed_within : (words : List (Option Word)) (n : ℕ) (name : List ℕ) → listed words n ≡ Some name → n < length words
listed_within words n name e =
    let l = is_listed words n name e in name_is_within words n l.first l.own

below-named : (words : List (Option Word)) (w : Option Word) (name : List ℕ) (n : ℕ) → n ≤ length words
    → newest_below (bears (words ++ w ∷ []) name) n ≡ newest_below (bears words name) n
below-named words w name n h =
    newest_below-same (bears (words ++ w ∷ []) name) (bears words name) n
    (λ k l. ap (bears_it name) (below-push words w k (omega (arith, l, h))))

kept_place : (words : List (Option Word)) (n : ℕ) (old name : List ℕ) (kind : Kind)
    → listed words n ≡ Some old → lower old ≡ lower name → listed (with_name words name kind) n ≡ Some name
kept_place words n old name kind e same =
    let l = is_listed words n old e in
    let within = listed_within words n old e in
    let w = Some (made (Some name) kind) in
    let was = below-push words w n within in
    listed_is (with_name words name kind) n (length words) l.first (ap is_hidden_in was
    ∙ l.shown) (ap name_in was ∙ l.own)
    (below-named words w l.first n (omega (arith, within)) ∙ l.oldest)
    (made_found words name l.first kind (sym same ∙ same_spelling words n old l))
    ∙ ap name_in (end-push words w)

new_place : (words : List (Option Word)) (name : List ℕ) (kind : Kind)
    → found words name ≡ None → listed (with_name words name kind) (length words) ≡ Some name
new_place words name kind e =
    let w = Some (made (Some name) kind) in
    let last = end-push words w in
    listed_is (with_name words name kind) (length words) (length words) name (ap is_hidden_in last) (ap name_in last)
    (below-named words w name (length words) (omega arith) ∙ e)
    (made_found words name name kind refl)
    ∙ ap name_in last

pub names_are_listed_once : NamesAreListedOnce
names_are_listed_once = record {
  spelt = all_listed;
  once = listed_once;
  borne = listed_borne;
  kept_place = kept_place;
  new_place = new_place;
}
