-- What keeps the index: words that change but for their names, a word more, the newest word taken away.
use Rattle.std.proofs.Common.{◌≡◌, ℕ, zero, suc, ◌+◌, ◌<◌, ◌≤◌, Bool, true, false, cond, List, [], ◌∷◌, ◌++◌, length}
use Rattle.std.proofs.lemmas.Option.{same_Some}
use Rattle.std.proofs.Common.{set, take, Option, Some, None}
use Rattle.std.proofs.Common.{get_or, refl, sym, ◌∙◌, ap, subst, arith, nat_eq, is_some, length-append}
use Rattle.std.proofs.Common.{get_or-set_other, get_or-set_same, ◌≢◌, ◌-◌, inl, inr, IsSome}
use Rattle.std.specs.Cmp.Lexicographic.{pointwise}
use Rattle.std.proofs.lemmas.List.{get_or_append_left, get_or_at, get_or-take, length-set, length-take-le}
use Rattle.std.proofs.lemmas.Bool.{cases_lt, false≢true}
use Rattle.arrayvec.specs.ArrayVec.{ArrayVec}
use Rattle.of_dict.specs.declared.word.Change.{Change}
use Rattle.of_dict.specs.declared.word.Change.TheVariants.{Hidden, Immediate, Kind}
use Rattle.of_dict.specs.declared.word.Word.{Word}
use Rattle.of_dict.specs.Words.{has_key, is_named, lower, name_in, newest, newest_below, word_at}
use Rattle.of_dict.specs.Calls.{changed_in}
use Rattle.of_dict.specs.Index.{IsIndexed, after}
use Rattle.of_dict.proofs.Searches.{has_own_key, newest_below-found, newest_below-same, newest_below-skip}
use Rattle.of_dict.proofs.Searches.{newest_below-some, same_key}

-- the index serves each list of words with the same names
pub IsIndexed-same_names : (words other : List (Option Word)) (older : List (Option ℕ))
    (newest : ArrayVec ℕ → Option ℕ)
    → length other ≡ length words → ((k : ℕ) → name_in (word_at other k) ≡ name_in (word_at words k))
    → IsIndexed words older newest → IsIndexed other older newest
IsIndexed-same_names words other older newest len same indexed =
    let same_search : (key : List ℕ) (n : ℕ)
    → newest_below (has_key words key) n ≡ newest_below (has_key other key) n =
    λ key n. newest_below-same (has_key words key) (has_key other key) n (λ k _. ap (is_named key) (sym (same k))) in
    record {
      room = omega (arith, indexed.room, len);
      links = indexed.links ∙ sym len;
      heads = λ key. indexed.heads key ∙ same_search key.items (length words)
          ∙ ap (newest_below (has_key other key.items)) (sym len);
      chain = λ n name e. indexed.chain n name (sym (same n) ∙ e) ∙ same_search (lower name) n;
      names = λ n name e. indexed.names n name (sym (same n) ∙ e);
    }

pub name_in-set : (words : List (Option Word)) (n k : ℕ) (w : Option Word) → name_in w ≡ name_in (get_or words n None)
    → name_in (get_or (set words n w) k None) ≡ name_in (get_or words k None)
name_in-set [] n k w e = refl
name_in-set (x ∷ xs) zero zero w e = e
name_in-set (x ∷ xs) zero (suc k) w e = refl
name_in-set (x ∷ xs) (suc n) zero w e = refl
name_in-set (x ∷ xs) (suc n) (suc k) w e = name_in-set xs n k w e

-- the index serves the words after one of them is replaced by one of its name
pub IsIndexed-set : (words : List (Option Word)) (older : List (Option ℕ)) (newest : ArrayVec ℕ → Option ℕ) (n : ℕ)
    (w : Option Word) → name_in w ≡ name_in (get_or words n None) → IsIndexed words older newest
    → IsIndexed (set words n w) older newest
IsIndexed-set words older newest n w e indexed =
    IsIndexed-same_names words (set words n w) older newest (length-set words n w)
    (λ k. name_in-set words n k w e) indexed

name_in-after : (change : Change) (word : Word) → (after change word).name ≡ word.name
name_in-after (Kind kind) word = refl
name_in-after Immediate word = refl
name_in-after (Hidden hidden) word = refl

-- a change leaves a word's name
pub name_in-changed : (change : Change) (w : Option Word) → name_in (changed_in (after change) w) ≡ name_in w
name_in-changed change None = refl
name_in-changed change (Some word) = name_in-after change word

-- the newest word that exists
abbrev newest_word : List (Option Word) → Option ℕ
newest_word words = newest words

no_name : (name : List ℕ) → None ≡ Some name → ⊥
no_name name e = cc

no_word : (w : Option Word) (name : List ℕ) → is_some w ≡ false → name_in w ≡ Some name → ⊥
no_word None name none its = no_name name its
no_word (Some w) name none its = absurd (false≢true (sym none))

-- whatever has a name is one of the words
pub name_is_within : (words : List (Option Word)) (n : ℕ) (name : List ℕ)
    → name_in (word_at words n) ≡ Some name → n < length words
name_is_within [] n name e = absurd (no_name name e)
name_is_within (w ∷ ws) zero name e = omega arith
name_is_within (w ∷ ws) (suc n) name e = let l = name_is_within ws n name e in omega (arith, l)

pub below-push : (words : List (Option Word)) (w : Option Word) (n : ℕ) → n < length words
    → word_at (words ++ w ∷ []) n ≡ word_at words n
below-push words w n l = get_or_append_left words (w ∷ []) None n l

pub end-push : (words : List (Option Word)) (w : Option Word) → word_at (words ++ w ∷ []) (length words) ≡ w
end-push words w = get_or_at words w [] None (length words) refl

search-push : (words : List (Option Word)) (w : Option Word) (key : List ℕ) (n : ℕ) → n ≤ length words
    → newest_below (has_key (words ++ w ∷ []) key) n ≡ newest_below (has_key words key) n
search-push words w key n h =
    newest_below-same (has_key (words ++ w ∷ []) key) (has_key words key) n
    (λ k l. ap (λ v. is_named key (name_in v)) (below-push words w k (omega (arith, l, h))))

head-push : (words : List (Option Word)) (w : Option Word) (key : List ℕ)
    → newest_below (has_key (words ++ w ∷ []) key) (length (words ++ w ∷ []))
    ≡ cond (is_named key (name_in w)) (Some (length words)) (newest_below (has_key words key) (length words))
head-push words w key =
    let len : length (words ++ w ∷ []) ≡ suc (length words) = omega (arith, length-append words (w ∷ [])) in
    let last : has_key (words ++ w ∷ []) key (length words) ≡ is_named key (name_in w) =
    ap (λ v. is_named key (name_in v)) (end-push words w) in
    rw (len, last, search-push words w key (length words) (omega arith)) refl

-- what one more word asks of the index
pub record IsLinked (words : List (Option Word)) (older : List (Option ℕ)) (newest : ArrayVec ℕ → Option ℕ)
    (w : Option Word) (link : Option ℕ) (other : ArrayVec ℕ → Option ℕ) : Type 0 where
  pub fits : length words < 8192
  pub short : (name : List ℕ) → name_in w ≡ Some name → length name ≤ 31
  pub linked : (name : List ℕ) → name_in w ≡ Some name → link ≡ newest_below (has_key words (lower name))
      (length words)
  pub updated : (key : ArrayVec ℕ) → other key ≡ cond (is_named key.items (name_in w)) (Some (length words))
      (newest key)

chain-push : (words : List (Option Word)) (older : List (Option ℕ)) (newest : ArrayVec ℕ → Option ℕ) (w : Option Word)
    (link : Option ℕ) (other : ArrayVec ℕ → Option ℕ)
    → IsIndexed words older newest → IsLinked words older newest w link other
    → (n : ℕ) (name : List ℕ) → name_in (word_at (words ++ w ∷ []) n) ≡ Some name
    → get_or (older ++ link ∷ []) n None ≡ newest_below (has_key (words ++ w ∷ []) (lower name)) n
chain-push words older newest w link other indexed l n name e =
    let within = name_is_within (words ++ w ∷ []) n name e in
    elim (cases_lt n (length words)) [
      | inl small ↦ get_or_append_left older (link ∷ []) None n (omega (arith, small, indexed.links))
          ∙ indexed.chain n name (sym (ap name_in (below-push words w n small)) ∙ e)
          ∙ sym (search-push words w (lower name) n (omega (arith, small)))
      | inr large ↦
          let same : n ≡ length words = omega (arith, large, within, length-append words (w ∷ [])) in
          let its : name_in w ≡ Some name = sym (ap name_in (end-push words w))
          ∙ ap (λ k. name_in (word_at (words ++ w ∷ []) k)) (sym same) ∙ e in
          get_or_at older link [] None n (indexed.links ∙ sym same)
          ∙ l.linked name its ∙ sym (search-push words w (lower name) (length words) (omega arith))
          ∙ ap (newest_below (has_key (words ++ w ∷ []) (lower name))) (sym same)
    ]

short-push : (words : List (Option Word)) (w : Option Word)
    → ((n : ℕ) (name : List ℕ) → name_in (word_at words n) ≡ Some name → length name ≤ 31)
    → ((name : List ℕ) → name_in w ≡ Some name → length name ≤ 31)
    → (n : ℕ) (name : List ℕ) → name_in (word_at (words ++ w ∷ []) n) ≡ Some name → length name ≤ 31
short-push [] w all last zero name e = last name e
short-push [] w all last (suc n) name e = absurd (no_name name e)
short-push (x ∷ xs) w all last zero name e = all 0 name e
short-push (x ∷ xs) w all last (suc n) name e = short-push xs w (λ k. all (suc k)) last n name e

-- the index with one more word
pub IsIndexed-push : (words : List (Option Word)) (older : List (Option ℕ))
    (newest : ArrayVec ℕ → Option ℕ) (w : Option Word)
    (link : Option ℕ) (other : ArrayVec ℕ → Option ℕ)
    → IsIndexed words older newest → IsLinked words older newest w link other
    → IsIndexed (words ++ w ∷ []) (older ++ link ∷ []) other
IsIndexed-push words older newest w link other indexed l = record {
  room = omega (arith, l.fits, length-append words (w ∷ []));
  links = omega (arith, indexed.links, length-append words (w ∷ []), length-append older (link ∷ []));
  heads = λ key. l.updated key ∙ ap (cond (is_named key.items (name_in w)) (Some (length words)))
      (indexed.heads key) ∙ sym (head-push words w key.items);
  chain = chain-push words older newest w link other indexed l;
  names = short-push words w indexed.names l.short;
}

nothing_named : (w : Option Word) (key : List ℕ) → is_some w ≡ false → is_named key (name_in w) ≡ false
nothing_named None key e = refl
nothing_named (Some w) key e = absurd (false≢true (sym e))

-- the newest word taken away
taken-above : (words : List (Option Word)) (n : ℕ) (key : List ℕ)
    → ((k : ℕ) → n < k → k < length words → is_some (word_at words k) ≡ false)
    → (k : ℕ) → n < k → k < length words → has_key words key k ≡ false
taken-above words n key none k l h = nothing_named (word_at words k) key (none k l h)

other-taken : (words : List (Option Word)) (n k : ℕ) → k ≢ n → word_at (set words n None) k ≡ word_at words k
other-taken words n k ne = get_or-set_other words n k None None ne

same-taken : (words : List (Option Word)) (n : ℕ) → n < length words → word_at (set words n None) n ≡ None
same-taken words n l = get_or-set_same words n None None l

below-taken : (words : List (Option Word)) (n m : ℕ) (key : List ℕ) → m ≤ n
    → newest_below (has_key (set words n None) key) m ≡ newest_below (has_key words key) m
below-taken words n m key h =
    newest_below-same (has_key (set words n None) key) (has_key words key) m
    (λ k l. let ne : k ≢ n = omega (arith, l, h) in ap (λ v. is_named key (name_in v)) (other-taken words n k ne))

-- with no word above it, a search that finds nothing at n is one below n
pub above-taken : (p : ℕ → Bool) (n m : ℕ) → n < m → p n ≡ false → ((k : ℕ) → n < k → k < m → p k ≡ false)
    → newest_below p m ≡ newest_below p n
above-taken p n m l at above =
    let from : (k : ℕ) → n ≤ k → k < n + (m - n) → p k ≡ false =
    λ k a b. elim (cases_lt n k) [
      | inl up ↦ above k up (omega (arith, b, l))
      | inr down ↦ let same : n ≡ k = omega (arith, a, down) in subst (λ j. p j ≡ false) same at
    ] in
    let whole : m ≡ n + (m - n) = omega (arith, l) in
    ap (newest_below p) whole ∙ newest_below-skip p n (m - n) from

-- a word without a name leaves the index of the others
pub none_is_linked : (words : List (Option Word)) (older : List (Option ℕ))
    (newest : ArrayVec ℕ → Option ℕ) (w : Option Word)
    → name_in w ≡ None → length words < 8192 → IsLinked words older newest w None newest
none_is_linked words older newest w e room = record {
  fits = room;
  short = λ name its. absurd (no_name name (sym e ∙ its));
  linked = λ name its. absurd (no_name name (sym e ∙ its));
  updated = λ key. rw e refl;
}

-- a word with a name is the newest of that name
pub name_is_linked : (words : List (Option Word)) (older : List (Option ℕ))
    (newest : ArrayVec ℕ → Option ℕ) (w : Option Word)
    (name : List ℕ) (key : ArrayVec ℕ) (link : Option ℕ) (other : ArrayVec ℕ → Option ℕ)
    → IsIndexed words older newest → length words < 8192 → name_in w ≡ Some name → key.items ≡ lower name
    → length name ≤ 31
    → link ≡ newest key
    → ((q : ArrayVec ℕ) → other q ≡ cond (pointwise nat_eq key.items q.items) (Some (length words)) (newest q))
    → IsLinked words older newest w link other
name_is_linked words older newest w name key link other indexed room e its short linked updated =
    let same : (text : List ℕ) → name_in w ≡ Some text → name ≡ text = λ text t. same_Some name text (sym e ∙ t) in
    record {
      fits = room;
      short = λ text t. subst (λ n. length n ≤ 31) (same text t) short;
      linked = λ text t. linked ∙ indexed.heads key ∙ ap (λ k. newest_below (has_key words k) (length words))
          (its ∙ ap lower (same text t));
      updated = λ q. updated q ∙ rw (e, its) refl;
    }

-- the newest word that exists: none above it does, so a search that doesn't find it finds what lies below
newest_is : (words : List (Option Word)) (n : ℕ) → newest_word words ≡ Some n
    → (n < length words) × (is_some (word_at words n) ≡ true)
    × ((k : ℕ) → n < k → k < length words → is_some (word_at words k) ≡ false)
newest_is words n e = newest_below-found (λ k. is_some (word_at words k)) (length words) n e

pub newest_is_within : (words : List (Option Word)) (n : ℕ) → newest_word words ≡ Some n → n < length words
newest_is_within words n e = (newest_is words n e).0

-- searches by a key that the newest word doesn't have, and once it is taken away
search-other : (words : List (Option Word)) (n : ℕ) (key : List ℕ) → newest_word words ≡ Some n
    → has_key words key n ≡ false
    → newest_below (has_key words key) (length words) ≡ newest_below (has_key words key) n
search-other words n key e at =
    let is = newest_is words n e in
    above-taken (has_key words key) n (length words) is.0 at (taken-above words n key is.2)

search-taken : (words : List (Option Word)) (n : ℕ) (key : List ℕ) → newest_word words ≡ Some n
    → newest_below (has_key (set words n None) key) (length (set words n None)) ≡ newest_below (has_key words key) n
search-taken words n key e =
    let is = newest_is words n e in
    let at : has_key (set words n None) key n ≡ false =
    ap (λ v. is_named key (name_in v)) (same-taken words n is.0) in
    let above : (k : ℕ) → n < k → k < length words → has_key (set words n None) key k ≡ false =
    λ k l h. let ne : k ≢ n = omega (arith, l) in
    ap (λ v. is_named key (name_in v)) (other-taken words n k ne) ∙ taken-above words n key is.2 k l h in
    ap (newest_below (has_key (set words n None) key)) (length-set words n None)
    ∙ above-taken (has_key (set words n None) key) n (length words) is.0 at above
    ∙ below-taken words n n key (omega arith)

-- whatever has a name after the newest word was taken away lies below it, and had it before
name-taken : (words : List (Option Word)) (n k : ℕ) (name : List ℕ) → newest_word words ≡ Some n
    → name_in (word_at (set words n None) k) ≡ Some name → (k < n) × (name_in (word_at words k) ≡ Some name)
name-taken words n k name e its =
    let is = newest_is words n e in
    let within = name_is_within (set words n None) k name its in
    elim (cases_lt k n) [
      | inl small ↦ (let ne : k ≢ n = omega (arith, small) in (
        small,
        sym (ap name_in
            (other-taken words n k ne)) ∙ its,
      ))
      | inr large ↦ elim (cases_lt n k) [
        | inl above ↦
            let ne : k ≢ n = omega (arith, above) in
            let was = sym (ap name_in (other-taken words n k ne)) ∙ its in
            absurd (no_word (word_at words k) name (is.2 k above (omega
            (arith, within, length-set words n None))) was)
        | inr below ↦
            let same : k ≡ n = omega (arith, large, below) in
            absurd (no_name name (sym (ap name_in (ap (word_at (set words n None)) same
            ∙ same-taken words n is.0)) ∙ its))
      ]
    ]

taken-head : (words : List (Option Word)) (n : ℕ) (name key : List ℕ) (b : Bool) (link head : Option ℕ)
    → b ≡ pointwise nat_eq (lower name) key → newest_word words ≡ Some n → name_in (word_at words n) ≡ Some name
    → link ≡ newest_below (has_key words (lower name)) n → head ≡ newest_below (has_key words key) (length words)
    → cond b link head ≡ newest_below (has_key words key) n
taken-head words n name key true link head test e its chain at =
    let same = same_key name key (sym test) in chain ∙ ap (λ k. newest_below (has_key words k) n) same
taken-head words n name key false link head test e its chain at =
    at ∙ search-other words n key e (ap (is_named key) its ∙ sym test)

-- the index once the newest word is taken away
pub IsIndexed-taken : (words : List (Option Word)) (older : List (Option ℕ))
    (newest other : ArrayVec ℕ → Option ℕ) (n : ℕ)
    (name : List ℕ) (key : ArrayVec ℕ) → IsIndexed words older newest → newest_word words ≡ Some n
    → name_in (word_at words n) ≡ Some name → key.items ≡ lower name
    → ((q : ArrayVec ℕ) → other q ≡ cond (pointwise nat_eq key.items q.items) (get_or older n None) (newest q))
    → IsIndexed (set words n None) older other
IsIndexed-taken words older newest other n name key indexed e its keyed updated =
    let is = newest_is words n e in
    record {
      room = omega (arith, indexed.room, length-set words n None);
      links = indexed.links ∙ sym (length-set words n None);
      heads = λ q. updated q ∙ taken-head words n name q.items (pointwise nat_eq key.items q.items)
          (get_or older n None) (newest q)
          (rw keyed refl) e its (indexed.chain n name its) (indexed.heads q) ∙ sym (search-taken words n q.items e);
      chain = λ k other_name t.
          let was = name-taken words n k other_name e t in
          indexed.chain k other_name was.1 ∙ sym (below-taken words n k (lower other_name) (omega (arith, was.0)));
      names = λ k other_name t. indexed.names k other_name (name-taken words n k other_name e t).1;
    }

-- the name of a word is found
pub head_is_some : (words : List (Option Word)) (older : List (Option ℕ))
    (newest : ArrayVec ℕ → Option ℕ) (n : ℕ) (name : List ℕ)
    (key : ArrayVec ℕ) → IsIndexed words older newest → n < length words → name_in (word_at words n) ≡ Some name
    → key.items ≡ lower name → IsSome (newest key)
head_is_some words older newest n name key indexed l its keyed =
    let at : has_key words key.items n ≡ true = rw keyed (has_own_key words n name its) in
    rw (indexed.heads key) (newest_below-some (has_key words key.items) n (length words) l at)

-- ---- the latest word is no more

shorter-below : (words : List (Option Word)) (n k : ℕ) → k < n → word_at (take n words) k ≡ word_at words k
shorter-below words n k l = get_or-take n words k None l

shorter-search : (words : List (Option Word)) (n m : ℕ) (key : List ℕ) → m ≤ n
    → newest_below (has_key (take n words) key) m ≡ newest_below (has_key words key) m
shorter-search words n m key h =
    newest_below-same (has_key (take n words) key) (has_key words key) m
    (λ k l. ap (λ v. is_named key (name_in v)) (shorter-below words n k (omega (arith, l, h))))

-- a search doesn't find the last word of all, which has no name
last-skipped : (words : List (Option Word)) (n m : ℕ) (key : List ℕ) → n < m → m ≤ suc n
    → name_in (word_at words n) ≡ None
    → newest_below (has_key words key) m ≡ newest_below (has_key words key) n
last-skipped words n m key l h none =
    above-taken (has_key words key) n m l (ap (is_named key) none) (λ k a b. absurd (omega (arith, a, b, h)))

shorter-head : (words : List (Option Word)) (n : ℕ) (key : List ℕ) → length words ≡ suc n
    → name_in (word_at words n) ≡ None
    → newest_below (has_key words key) (length words)
    ≡ newest_below (has_key (take n words) key) (length (take n words))
shorter-head words n key e none =
    let len : length (take n words) ≡ n = length-take-le n words (omega (arith, e)) in
    last-skipped words n (length words) key (omega (arith, e)) (omega (arith, e)) none
    ∙ sym (shorter-search words n n key (omega arith))
    ∙ ap (newest_below (has_key (take n words) key)) (sym len)

-- the index without the last word, if that has no name
pub IsIndexed-shorter : (words : List (Option Word)) (older : List (Option ℕ)) (newest : ArrayVec ℕ → Option ℕ) (n : ℕ)
    → length words ≡ suc n → name_in (word_at words n) ≡ None → IsIndexed words older newest
    → IsIndexed (take n words) (take n older) newest
IsIndexed-shorter words older newest n e none indexed =
    let len : length (take n words) ≡ n = length-take-le n words (omega (arith, e)) in
    let links : length (take n older) ≡ n = length-take-le n older (omega (arith, e, indexed.links)) in
    let before : (k : ℕ) (name : List ℕ) → name_in (word_at (take n words) k) ≡ Some name
    → (k < n) × (name_in (word_at words k) ≡ Some name) =
    λ k name its.
    let within = name_is_within (take n words) k name its in
    let below : k < n = omega (arith, within, len) in
    (below, sym (ap name_in (shorter-below words n k below)) ∙ its) in
    record {
      room = omega (arith, indexed.room, e, len);
      links = omega (arith, len, links);
      heads = λ key. indexed.heads key ∙ shorter-head words n key.items e none;
      chain = λ k name its.
          let was = before k name its in
          get_or-take n older k None was.0 ∙ indexed.chain k name was.1
          ∙ sym (shorter-search words n k (lower name) (omega (arith, was.0)));
      names = λ k name its. indexed.names k name (before k name its).1;
    }
