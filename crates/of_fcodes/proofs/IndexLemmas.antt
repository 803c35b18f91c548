-- What is found by its hash is what the tables have.
use Rattle.std.proofs.Common.{◌≡◌, ℕ, zero, suc, ◌<◌, Bool, true, false, List, [], ◌∷◌, map, Option, Some, None}
use Rattle.std.proofs.Common.{refl, sym, ap, ◌∙◌, nat_eq, if◌then◌else◌, arith, eq-eqb}
use Rattle.std.specs.Prelude.{slice_get}
use Rattle.std.specs.Str.{str_eq_ignore_ascii_case, str_to_ascii_lowercase}
use Rattle.std.proofs.lemmas.Slice.Eq.{bytes_eq-Decides}
use Rattle.std.proofs.lemmas.Bool.{eqb-false, eqb-true, false≢true}
use Rattle.of_fcodes.specs.declared.index.TheConstants.{ROW_ORDER, ROW_STARTS, WORD_ORDER, WORD_STARTS}
use Rattle.of_fcodes.specs.declared.words.Word.{Word}
use Rattle.of_fcodes.specs.Finding.{word_in, word_with_name}
use Rattle.of_fcodes.specs.Index.{entry_or, found_among, key_hash, name_hash, places_at}
use Rattle.of_fcodes.specs.Lookup.{number_in, number_named}
use Rattle.of_fcodes.specs.Rows.{Row, rows, first_rows, second_rows, third_rows, fourth_rows, fifth_rows, sixth_rows}
use Rattle.of_fcodes.specs.Rows.{seventh_rows}
use Rattle.of_fcodes.specs.Words.{Written, words, first_words, second_words, third_words, fourth_words, fifth_words}
use Rattle.of_fcodes.specs.Words.{sixth_words, seventh_words, eighth_words}

-- ---- what holds of all numbers below a number holds of each

abbrev below : ℕ → List ℕ
below zero = []
below (suc n) = n ∷ below n

each_if : {X : Type 0} (f g : ℕ → X) (n k : ℕ) (b : Bool) → nat_eq k n ≡ b → f n ≡ g n
    → (k < n → f k ≡ g k) → k < suc n → f k ≡ g k
each_if f g n k true is here below_it l = let same = eqb-true k n is in ap f same ∙ (here ∙ ap g (sym same))
each_if f g n k false is here below_it l = let other = eqb-false k n is in below_it (omega (arith, l, other))

each : {X : Type 0} (f g : ℕ → X) (n k : ℕ) → map f (below n) ≡ map g (below n) → k < n → f k ≡ g k
each f g zero k e l = absurd (omega (arith, l))
each f g (suc n) k e l =
    let first : f n ≡ g n = cc in
    let rest : map f (below n) ≡ map g (below n) = cc in
    each_if f g n k (nat_eq k n) refl first (each f g n k rest) l

-- ---- entries with another hash aren't found

abbrev hashed : {A : Type 0} → (A → List ℕ) → ℕ → List A → List A
hashed key k [] = []
hashed key k (r ∷ rs) = if nat_eq (name_hash (key r)) k then r ∷ hashed key k rs else hashed key k rs

same_hash : (a b : List ℕ) → str_eq_ignore_ascii_case a b ≡ true → name_hash a ≡ name_hash b
same_hash a b e =
    let low = str_to_ascii_lowercase a in
    let low2 = str_to_ascii_lowercase b in
    let same : low ≡ low2 = (bytes_eq-Decides low low2).0 e in
    ap key_hash same

abbrev found_in : {A B : Type 0} → (A → List ℕ) → (A → B) → List A → List ℕ → Option B
found_in key value [] name = None
found_in key value (r ∷ rs) name =
    if str_eq_ignore_ascii_case (key r) name then Some (value r) else found_in key value rs name

hashed_if : {A B : Type 0} (key : A → List ℕ) (value : A → B) (r : A) (list : List A) (name : List ℕ) (b h : Bool)
    → str_eq_ignore_ascii_case (key r) name ≡ b → nat_eq (name_hash (key r)) (name_hash name) ≡ h
    → found_in key value (hashed key (name_hash name) list) name ≡ found_in key value list name
    → found_in key value
    (if h then r ∷ hashed key (name_hash name) list else hashed key (name_hash name) list) name
    ≡ (if b then Some (value r) else found_in key value list name)
hashed_if key value r list name true true e is rest = rw e refl
hashed_if key value r list name true false e is rest =
    absurd (false≢true (sym is ∙ eq-eqb (name_hash (key r)) (name_hash name) (same_hash (key r) name e)))
hashed_if key value r list name false true e is rest = rw e rest
hashed_if key value r list name false false e is rest = rest

in_hashed : {A B : Type 0} (key : A → List ℕ) (value : A → B) (list : List A) (name : List ℕ)
    → found_in key value (hashed key (name_hash name) list) name ≡ found_in key value list name
in_hashed key value [] name = refl
in_hashed key value (r ∷ list) name =
    hashed_if key value r list name (str_eq_ignore_ascii_case (key r) name)
    (nat_eq (name_hash (key r)) (name_hash name)) refl refl (in_hashed key value list name)

found_somes : {A B : Type 0} (key : A → List ℕ) (value : A → B) (rs : List A) (name : List ℕ)
    → found_among key value (map Some rs) name ≡ found_in key value rs name
found_somes key value [] name = refl
found_somes key value (r ∷ rs) name = ap (entry_or key value (Some r) name) (found_somes key value rs name)

hash_fits : (name : List ℕ) → name_hash name < 256
hash_fits name = omega arith

found_by_hash : {A B : Type 0} (key : A → List ℕ) (value : A → B) (list : List A) (at : ℕ → List ℕ)
    → map (λ k. map (slice_get list) (at k)) (below 256) ≡ map (λ k. map Some (hashed key k list)) (below 256)
    → (name : List ℕ) → found_among key value (map (slice_get list) (at (name_hash name))) name
    ≡ found_in key value list name
found_by_hash key value list at table name =
    ap (λ rs. found_among key value rs name)
    (each (λ k. map (slice_get list) (at k)) (λ k. map Some (hashed key k list)) 256 (name_hash name) table
    (hash_fits name))
    ∙ (found_somes key value (hashed key (name_hash name) list) name ∙ in_hashed key value list name)

-- ---- the two tables

words_table : map (λ k. map (slice_get words) (places_at WORD_ORDER WORD_STARTS k)) (below 256)
    ≡ map (λ k. map Some (hashed (λ (r : Written). r.name) k words)) (below 256)
unfolding words first_words second_words third_words fourth_words fifth_words sixth_words seventh_words eighth_words
words_table = refl

rows_table : map (λ k. map (slice_get rows) (places_at ROW_ORDER ROW_STARTS k)) (below 256)
    ≡ map (λ k. map Some (hashed (λ (r : Row). r.name) k rows)) (below 256)
unfolding rows first_rows second_rows third_rows fourth_rows fifth_rows sixth_rows seventh_rows
rows_table = refl

words_are : (list : List Written) (name : List ℕ)
    → found_in (λ (r : Written). r.name) (λ r. r.word) list name ≡ word_in list name
words_are [] name = refl
words_are (r ∷ rs) name =
    ap (λ rest. if str_eq_ignore_ascii_case r.name name then Some r.word else rest) (words_are rs name)

rows_are : (list : List Row) (name : List ℕ)
    → found_in (λ (r : Row). r.name) (λ r. r.number) list name ≡ number_in list name
rows_are [] name = refl
rows_are (r ∷ rs) name =
    ap (λ rest. if str_eq_ignore_ascii_case r.name name then Some r.number else rest) (rows_are rs name)

pub words_hashed : (name : List ℕ)
    → found_among (λ (r : Written). r.name) (λ r. r.word)
    (map (slice_get words) (places_at WORD_ORDER WORD_STARTS (name_hash name))) name ≡ word_with_name name
unfolding word_with_name
words_hashed name =
    found_by_hash (λ (r : Written). r.name) (λ r. r.word) words (places_at WORD_ORDER WORD_STARTS) words_table name
    ∙ words_are words name

pub rows_hashed : (name : List ℕ)
    → found_among (λ (r : Row). r.name) (λ r. r.number)
    (map (slice_get rows) (places_at ROW_ORDER ROW_STARTS (name_hash name))) name ≡ number_named name
unfolding number_named
rows_hashed name =
    found_by_hash (λ (r : Row). r.name) (λ r. r.number) rows (places_at ROW_ORDER ROW_STARTS) rows_table name
    ∙ rows_are rows name
