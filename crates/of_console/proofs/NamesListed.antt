-- The law `names_are_listed`.
use Rattle.std.proofs.Common.{◌≡◌, ◌≢◌, ◌<◌, ◌≤◌, ◌-◌, ◌%◌, ◌/◌, ◌&&◌, ℕ, zero, suc, Bool, true, false, nat_eq}
use Rattle.std.proofs.Common.{nat_lt, not, List, [], ◌∷◌, ◌++◌, length, map, reverse, Option, Some, None, Result, Ok}
use Rattle.std.proofs.Common.{Err, refl, ap, sym, ◌∙◌, arith, inl, inr, ◌⊎◌, is_some, if◌then◌else◌, option_and_then}
use Rattle.std.proofs.Common.{get_or}
use Rattle.std.specs.Prelude.{◌==◌}
use Rattle.std.specs.Char.{to_ascii_lowercase}
use Rattle.std.specs.Cmp.Lexicographic.{pointwise, same_text}
use Rattle.std.specs.List.{AllPairs, Contains, cons_option}
use Rattle.std.specs.Str.{str_eq_ignore_ascii_case}
use Rattle.std.proofs.lemmas.Bool.{and_parts, cases_lt, eq-eqb, false≢true, ltb-true}
use Rattle.std.proofs.lemmas.List.{append_assoc, get_or-set_same, get_or_past, length-set, map-append, reverse-append}
use Rattle.std.proofs.lemmas.List.Elements.{All-contains_itself}
use Rattle.std.proofs.lemmas.List.Kept.{AllPairs-cons}
use Rattle.std.proofs.lemmas.Str.Ascii.{lowercase-lowercase}
use Rattle.of_cells.specs.declared.cells.Cell.{Cell}
use Rattle.of_dict.specs.declared.word.Word.{Word}
use Rattle.of_dict.specs.Laws.{NamesAreListedOnce, NewestIsFound}
use Rattle.of_dict.specs.Words.{bears, found, is_hidden_in, is_named, listed, lower, name_in, newest_below, spelling}
use Rattle.of_dict.specs.Words.{word_at, xt_of}
use Rattle.of_nodes.specs.declared.fault.NodeFault.{NodeFault}
use Rattle.of_nodes.specs.declared.fault.NodeFault.TheVariants.{BadName}
use Rattle.of_nodes.specs.declared.phandles.Phandle.{Phandle}
use Rattle.of_nodes.specs.declared.tree.Node.{Node}
use Rattle.of_nodes.specs.Methods.{is_method_name, method_in, with_method}
use Rattle.of_nodes.specs.Nodes.{added_at, first_phandle, method_added, method_found, methods_in, new_node, node_at}
use Rattle.of_nodes.specs.Nodes.{number_at, number_of, numbered, with_methods}
use Rattle.of_nodes.specs.Properties.{same_name, value_in, with_entry}
use Rattle.of_console.specs.NameLaws.{AreWords, IsMadeMethod, NamesAreListed}
use Rattle.of_console.specs.Names.{listed_below, method_name, methods_of, name_with_xt, names_shown, spelt_as}
use Rattle.of_console.specs.Names.{words_text}
use Rattle.of_console.proofs.NameLists.{name_there}

-- ---- what it takes that a name is listed in a place

record IsListed (words : List (Option Word)) (n : ℕ) (name : List ℕ) : Type 0 where
  pub own : List ℕ
  pub oldest : newest_below (bears words own) n ≡ None
  pub last : ℕ
  pub newest : found words own ≡ Some last
  pub spelt : name_in (word_at words last) ≡ Some name

spelt_by : (words : List (Option Word)) (n : ℕ) (own name : List ℕ) (m : Option ℕ)
    → newest_below (bears words own) n ≡ None → found words own ≡ m
    → option_and_then (λ k. name_in (word_at words k)) m ≡ Some name → IsListed words n name
spelt_by words n own name None oldest is e = absurd cc
spelt_by words n own name (Some m) oldest is e = record {
  own = own;
  oldest = oldest;
  last = m;
  newest = is;
  spelt = e;
}

if_oldest : (words : List (Option Word)) (n : ℕ) (own name : List ℕ) (older : Option ℕ)
    → newest_below (bears words own) n ≡ older
    → (if is_some older then None else option_and_then (λ m. name_in (word_at words m)) (found words own)) ≡ Some name
    → IsListed words n name
if_oldest words n own name None oldest e = spelt_by words n own name (found words own) oldest refl e
if_oldest words n own name (Some k) oldest e = absurd cc

if_named : (words : List (Option Word)) (n : ℕ) (name : List ℕ) (own : Option (List ℕ))
    → spelling words n own ≡ Some name → IsListed words n name
if_named words n name None e = absurd cc
if_named words n name (Some own) e = if_oldest words n own name (newest_below (bears words own) n) refl e

if_shown : (words : List (Option Word)) (n : ℕ) (name : List ℕ) (hidden : Bool)
    → (if hidden then None else spelling words n (name_in (word_at words n))) ≡ Some name → IsListed words n name
if_shown words n name true e = absurd cc
if_shown words n name false e = if_named words n name (name_in (word_at words n)) e

is_listed : (words : List (Option Word)) (n : ℕ) (name : List ℕ) → listed words n ≡ Some name → IsListed words n name
is_listed words n name e = if_shown words n name (is_hidden_in (word_at words n)) e

none_passes : (p : ℕ → Bool) (n : ℕ) → newest_below p n ≡ None → (k : ℕ) → k < n → p k ≡ false
none_passes p zero e k less = absurd (omega (arith, less))
none_passes p (suc n) e k less = at (λ h below. none_passes p n h k below) (p n) refl e
  where
    at : (newest_below p n ≡ None → k < n → p k ≡ false) → (b : Bool) → p n ≡ b
        → (if b then Some n else newest_below p n) ≡ None → p k ≡ false
    at f true q h = absurd cc
    at f false q h = elim (cases_lt k n) [
      | inl below ↦ f h below
      | inr above ↦ let same : k ≡ n = omega (arith, above, less) in ap p same ∙ q
    ]

-- what bears a name has it
borne_name : (words : List (Option Word)) (name : List ℕ) (n : ℕ) → bears words name n ≡ true
    → (other : List ℕ) × (name_in (word_at words n) ≡ Some other) × (lower other ≡ lower name)
borne_name words name n e =
    at (name_in (word_at words n)) refl
    (and_parts (is_named (lower name) (name_in (word_at words n))) (not (is_hidden_in (word_at words n))) e).0
  where
    at : (o : Option (List ℕ)) → name_in (word_at words n) ≡ o → is_named (lower name) o ≡ true
        → (other : List ℕ) × (name_in (word_at words n) ≡ Some other) × (lower other ≡ lower name)
    at None q h = absurd (false≢true h)
    at (Some other) q h = (other, q, same_text (lower other) (lower name) (sym h))

same_bears : (words : List (Option Word)) (name other : List ℕ) (n : ℕ) → lower name ≡ lower other
    → bears words name n ≡ bears words other n
same_bears words name other n e = rw e refl

some_name : (a b : List ℕ) → ◌≡◌ {A = Option (List ℕ)} (Some a) (Some b) → a ≡ b
some_name a b e = cc

same_spelling : (words : List (Option Word)) (n : ℕ) (name : List ℕ) (l : IsListed words n name) → NewestIsFound
    → lower name ≡ lower l.own
same_spelling words n name l law =
    let own = borne_name words l.own l.last (law.newest words l.own l.last l.newest).borne in
    ap lower (some_name name own.0 (sym l.spelt ∙ own.1)) ∙ own.2

not_past : (words : List (Option Word)) (name : List ℕ) (n : ℕ) → bears words name n ≡ true → n < length words
not_past words name n e = elim (cases_lt n (length words)) [
  | inl less ↦ less
  | inr past ↦
      let none : bears words name n ≡ false =
      ap (λ w. is_named (lower name) (name_in w) && not (is_hidden_in w)) (get_or_past words n None past) in
      absurd (false≢true (sym none ∙ e))
]

-- ---- the places with their names

abbrev entry_if : ℕ → Option (List ℕ) → List (ℕ × List ℕ) → List (ℕ × List ℕ)
entry_if n None es = es
entry_if n (Some name) es = (n, name) ∷ es

abbrev entries_below : List (Option Word) → ℕ → List (ℕ × List ℕ)
entries_below words zero = []
entries_below words (suc n) = entry_if n (listed words n) (entries_below words n)

names_of : (words : List (Option Word)) (n : ℕ) → map (λ (e : ℕ × List ℕ). e.1) (entries_below words n)
    ≡ listed_below words n
names_of words zero = refl
names_of words (suc n) =
    at (listed words n) ∙ ap (cons_option (listed words n)) (names_of words n)
  where
    at : (o : Option (List ℕ)) → map (λ (e : ℕ × List ℕ). e.1) (entry_if n o (entries_below words n))
        ≡ cons_option o (map (λ (e : ℕ × List ℕ). e.1) (entries_below words n))
    at None = refl
    at (Some name) = refl

-- an entry stands in its place
abbrev InPlace : List (Option Word) → ℕ → ℕ × List ℕ → Type 0
InPlace words n e = (e.0 < n) × (listed words e.0 ≡ Some e.1)

in_place : (words : List (Option Word)) (n : ℕ) (e : ℕ × List ℕ) → Contains (entries_below words n) e
    → InPlace words n e
in_place words zero e h = absurd (omega (arith, h.1))
in_place words (suc n) e h = at (in_place words n e) (listed words n) refl h
  where
    later : InPlace words n e → InPlace words (suc n) e
    later x = (omega (arith, x.0), x.1)

    among : (Contains (entries_below words n) e → InPlace words n e) → (name : List ℕ) → listed words n ≡ Some name
        → (i : ℕ) → i < length ((n, name) ∷ entries_below words n)
        → get_or ((n, name) ∷ entries_below words n) i e ≡ e → InPlace words (suc n) e
    among f name q zero lt same =
        let place : n ≡ e.0 = ap (λ (x : ℕ × List ℕ). x.0) same in (
          omega (arith, place),
          ap (listed words) (sym place) ∙ q ∙ ap (λ (x : ℕ × List ℕ). Some x.1) same,
        )
    among f name q (suc i) lt same = later (f (i, omega (arith, lt), same))

    at : (Contains (entries_below words n) e → InPlace words n e) → (o : Option (List ℕ)) → listed words n ≡ o
        → Contains (entry_if n o (entries_below words n)) e → InPlace words (suc n) e
    at f None q h = later (f h)
    at f (Some name) q h = among f name q h.0 h.1 h.2

is_entry : (words : List (Option Word)) (n k : ℕ) (name : List ℕ) → listed words k ≡ Some name → k < n
    → Contains (entries_below words n) (k, name)
is_entry words zero k name e less = absurd (omega (arith, less))
is_entry words (suc n) k name e less =
    at (λ below. is_entry words n k name e below) (listed words n) refl (cases_lt k n)
  where
    at : (k < n → Contains (entries_below words n) (k, name)) → (o : Option (List ℕ)) → listed words n ≡ o
        → (k < n) ⊎ (n ≤ k) → Contains (entry_if n o (entries_below words n)) (k, name)
    at f None q (inl below) = f below
    at f (Some other) q (inl below) = let h = f below in (suc h.0, omega (arith, h.1), h.2)
    at f None q (inr above) =
        let same : k ≡ n = omega (arith, above, less) in
        let both : ◌≡◌ {A = Option (List ℕ)} None (Some name) = sym q ∙ ap (listed words) (sym same) ∙ e in absurd cc
    at f (Some other) q (inr above) =
        let same : k ≡ n = omega (arith, above, less) in
        let its : other ≡ name = some_name other name (sym q ∙ ap (listed words) (sym same) ∙ e) in
        (0, omega arith, rw (same, its) refl)

-- an entry stands behind those of newer places, and none of them has its name
abbrev IsBehind : ℕ × List ℕ → ℕ × List ℕ → Type 0
IsBehind a b = (b.0 < a.0) × (lower b.1 ≢ lower a.1)

in_order : (words : List (Option Word)) (n : ℕ) → NamesAreListedOnce → AllPairs IsBehind (entries_below words n)
in_order words zero law = λ i j d less within. absurd (omega (arith, within))
in_order words (suc n) law = at (in_order words n law) (listed words n) refl
  where
    others : List (ℕ × List ℕ)
    others = entries_below words n

    at : AllPairs IsBehind others → (o : Option (List ℕ)) → listed words n ≡ o
        → AllPairs IsBehind (entry_if n o others)
    at f None q = f
    at f (Some name) q = AllPairs-cons IsBehind (n, name) others
        (λ i d lt.
        let e = get_or others i d in
        let there = in_place words n e (All-contains_itself others i d lt) in (
          there.0,
          λ same.
              let one : e.0 ≡ n = law.once words e.0 n e.1 name there.1 q same in
              omega (arith, one, there.0),
        )) f

words_listed : NewestIsFound → NamesAreListedOnce → (words : List (Option Word))
    → AreWords words (entries_below words (length words))
words_listed law once words = record {
  borne = λ e h. once.borne words e.0 e.1 (in_place words (length words) e h).1;
  oldest = λ e k h less.
      let l = is_listed words e.0 e.1 (in_place words (length words) e h).1 in
      same_bears words e.1 l.own k (same_spelling words e.0 e.1 l law)
      ∙ none_passes (bears words l.own) e.0 l.oldest k less;
  spelt = λ e h.
      let l = is_listed words e.0 e.1 (in_place words (length words) e h).1 in (
        l.last,
        law.letters words e.1 l.own (same_spelling words e.0 e.1 l law) ∙ l.newest,
        l.spelt,
      );
  each = λ name m is.
      let place = once.spelt words name m is in
      let other = borne_name words name m (law.newest words name m is).borne in
      let there = place.1 ∙ other.1 in (
        (place.0, other.0),
        is_entry words (length words) place.0 other.0 there
            (not_past words other.0 place.0 (once.borne words place.0 other.0 there)),
        other.1,
      );
  once = λ i j d less within. (in_order words (length words) once i j d less within).1;
  order = λ i j d less within. (in_order words (length words) once i j d less within).0;
}

-- ---- the methods of a package

-- what making a word a method leaves of a package
record IsAdded (ns after : List Node) (ph : Phandle) (name : List ℕ) (xt : Cell) : Type 0 where
  pub number : ℕ
  pub good : is_method_name name ≡ true
  pub was : number_of (length ns) ph ≡ Some number
  pub is : number_of (length after) ph ≡ Some number
  pub methods : methods_in after number ≡ with_method (methods_in ns number) name xt

some_if : (b : Bool) (x i : ℕ) → ◌≡◌ {A = Option ℕ} (if b then Some x else None) (Some i) → (b ≡ true) × (x ≡ i)
some_if true x i e = (refl, cc)
some_if false x i e = absurd cc

within_at : (count d i : ℕ) → number_at count d ≡ Some i → i < count
within_at count d i e =
    let is = some_if (d % 4 == 0 && nat_lt (d / 4) count) (d / 4) i e in
    let less = ltb-true (d / 4) count (and_parts (d % 4 == 0) (nat_lt (d / 4) count) is.0).1 in
    omega (arith, less, is.1)

within_if : (b : Bool) (count d i : ℕ) → ◌≡◌ {A = Option ℕ} (if b then None else number_at count d) (Some i) → i < count
within_if true count d i e = absurd cc
within_if false count d i e = within_at count d i e

added_if : (ns after : List Node) (ph : Phandle) (name : List ℕ) (xt : Cell) (i : ℕ) (b : Bool)
    → number_of (length ns) ph ≡ Some i → is_method_name name ≡ b
    → (if b then Ok (with_methods ns i (with_method (methods_in ns i) name xt)) else Err BadName) ≡ Ok after
    → IsAdded ns after ph name xt
added_if ns after ph name xt i false at good e = absurd cc
added_if ns after ph name xt i true at good e =
    let is : with_methods ns i (with_method (methods_in ns i) name xt) ≡ after = cc in
    let many : length after ≡ length ns = ap length (sym is) ∙ length-set ns i _ in
    let within : i < length ns = within_if (nat_lt ph.0.0 first_phandle) (length ns) (ph.0.0 - first_phandle) i at in
    record {
      number = i;
      good = good;
      was = at;
      is = ap (λ k. number_of k ph) many ∙ at;
      methods = ap (λ l. methods_in l i) (sym is)
          ∙ ap (λ (n : Node). n.methods) (get_or-set_same ns i (record (node_at ns i) {
            methods =
                with_method (methods_in ns i) name xt;
          }) (new_node 0) within);
    }

added_at_number : (ns after : List Node) (ph : Phandle) (name : List ℕ) (xt : Cell) (o : Option ℕ)
    → number_of (length ns) ph ≡ o → numbered o (added_at ns name xt) ≡ Ok after → IsAdded ns after ph name xt
added_at_number ns after ph name xt None at e = absurd cc
added_at_number ns after ph name xt (Some i) at e =
    added_if ns after ph name xt i (is_method_name name) at refl e

is_added : (ns after : List Node) (ph : Phandle) (name : List ℕ) (xt : Cell) → method_added ns ph name xt ≡ Ok after
    → IsAdded ns after ph name xt
is_added ns after ph name xt e = added_at_number ns after ph name xt (number_of (length ns) ph) refl e

-- what a package prints
text_at : (ns : List Node) (ph : Phandle) (words : List (Option Word)) (i : ℕ) → number_of (length ns) ph ≡ Some i
    → words_text ns (Some ph) words ≡ names_shown (reverse (map (method_name words) (methods_in ns i)))
text_at ns ph words i e = ap (λ o. names_shown (reverse (map (method_name words) (methods_of ns o)))) e

same_result : (a b : Option Cell) → ◌≡◌ {A = Result (Option Cell) NodeFault} (Ok a) (Ok b) → a ≡ b
same_result a b e = cc

-- what the name finds among the methods
found_in : (ns after : List Node) (ph : Phandle) (name : List ℕ) (xt : Cell) (v : Option Cell)
    (added : IsAdded ns after ph name xt) → method_found ns ph name ≡ Ok v
    → value_in (methods_in ns added.number) (lower name) ≡ v
found_in ns after ph name xt v added e =
    ap (λ b. if b then value_in (methods_in ns added.number) (lower name) else None) (sym added.good)
    ∙ same_result _ v
    (ap (λ o. numbered {A = Option Cell} o (λ i. Ok (method_in (methods_in ns i) name))) (sym added.was) ∙ e)

-- a new entry goes last
goes_last : (es : List (List ℕ × Cell)) (key : List ℕ) (xt : Cell) → value_in es key ≡ None
    → with_entry es key xt ≡ es ++ (key, xt) ∷ []
goes_last [] key xt e = refl
goes_last (x ∷ es) key xt e = at (λ h. goes_last es key xt h) (same_name key x.0) refl e
  where
    at : (value_in es key ≡ None → with_entry es key xt ≡ es ++ (key, xt) ∷ []) → (b : Bool) → same_name key x.0 ≡ b
        → (if b then Some x.1 else value_in es key) ≡ None
        → (if b then (x.0, xt) ∷ es else x ∷ with_entry es key xt) ≡ x ∷ es ++ (key, xt) ∷ []
    at f true q h = absurd cc
    at f false q h = ap (λ l. x ∷ l) (f h)

-- one that is there keeps its place
record Stands (es : List (List ℕ × Cell)) (key : List ℕ) (xt : Cell) : Type 0 where
  pub before : List (List ℕ × Cell)
  pub behind : List (List ℕ × Cell)
  pub old : Cell
  pub was : es ≡ before ++ (key, old) ∷ behind
  pub is : with_entry es key xt ≡ before ++ (key, xt) ∷ behind

stands : (es : List (List ℕ × Cell)) (key : List ℕ) (xt old : Cell) → value_in es key ≡ Some old → Stands es key xt
stands [] key xt old e = absurd cc
stands (x ∷ es) key xt old e = at (λ h. stands es key xt old h) (same_name key x.0) refl e
  where
    at : (value_in es key ≡ Some old → Stands es key xt) → (b : Bool) → same_name key x.0 ≡ b
        → (if b then Some x.1 else value_in es key) ≡ Some old → Stands (x ∷ es) key xt
    at f true q h =
        let same : key ≡ x.0 = same_text key x.0 (sym q) in
        record {
          before = [];
          behind = es;
          old = x.1;
          was = ap (λ k. (k, x.1) ∷ es) (sym same);
          is = rw q (ap (λ k. (k, xt) ∷ es) (sym same));
        }
    at f false q h =
        let s = f h in
        record {
          before = x ∷ s.before;
          behind = s.behind;
          old = s.old;
          was = ap (λ l. x ∷ l) s.was;
          is = rw q (ap (λ l. x ∷ l) s.is);
        }

-- ---- how a method is spelt

lower_twice : (name : List ℕ) → lower (lower name) ≡ lower name
lower_twice [] = refl
lower_twice (b ∷ name) =
    ap (λ c. c ∷ lower (lower name)) (lowercase-lowercase b)
    ∙ ap (λ l. to_ascii_lowercase b ∷ l) (lower_twice name)

ignoring : (a b : List ℕ) → pointwise nat_eq (lower a) (lower b) ≡ str_eq_ignore_ascii_case a b
ignoring a b = refl

same_self : (name : List ℕ) → pointwise nat_eq name name ≡ true
same_self [] = refl
same_self (b ∷ name) = rw (eq-eqb b b refl, same_self name) refl

spelt_anew : (name : List ℕ) → spelt_as (lower name) (Some name) ≡ name
spelt_anew name =
    let same : str_eq_ignore_ascii_case name (lower name) ≡ true =
    sym (ignoring name (lower name)) ∙ ap (pointwise nat_eq (lower name)) (lower_twice name) ∙ same_self (lower name) in
    ap (λ b. if b then name else lower name) same

spelt_alike : (name : List ℕ) (o : Option (List ℕ)) → lower (spelt_as (lower name) o) ≡ lower name
spelt_alike name None = lower_twice name
spelt_alike name (Some other) = at (str_eq_ignore_ascii_case other (lower name)) refl
  where
    at : (b : Bool) → str_eq_ignore_ascii_case other (lower name) ≡ b
        → lower (if b then other else lower name) ≡ lower name
    at true q =
        same_text (lower other) (lower (lower name)) (sym (ignoring other (lower name) ∙ q)) ∙ lower_twice name
    at false q = lower_twice name

-- a method is printed as its own word is spelt
printed : (words : List (Option Word)) (name : List ℕ) (xt : Cell) (n : ℕ) → xt.0 ≡ xt_of n
    → name_in (word_at words n) ≡ Some name → method_name words (lower name, xt) ≡ name
printed words name xt n e its =
    ap (spelt_as (lower name)) (sym (name_there words n xt.0 (sym e)) ∙ its) ∙ spelt_anew name

-- ---- where a method is printed

last_first : {A : Type 0} (f : A → List ℕ) (es : List A) (e : A)
    → reverse (map f (es ++ e ∷ [])) ≡ f e ∷ reverse (map f es)
last_first f es e = ap reverse (map-append f es (e ∷ [])) ∙ reverse-append (map f es) (f e ∷ [])

turned : {A : Type 0} (f : A → List ℕ) (before : List A) (e : A) (behind : List A)
    → reverse (map f (before ++ e ∷ behind)) ≡ reverse (map f behind) ++ f e ∷ reverse (map f before)
turned f before e behind =
    ap reverse (map-append f before (e ∷ behind)) ∙ reverse-append (map f before) (f e ∷ map f behind)
    ∙ ap (λ l. l ++ reverse (map f before)) (reverse-append (f e ∷ []) (map f behind))
    ∙ append_assoc (reverse (map f behind)) (f e ∷ []) (reverse (map f before))

made_method : (ns after : List Node) (ph : Phandle) (words : List (Option Word)) (name : List ℕ) (xt : Cell) (n : ℕ)
    → method_added ns ph name xt ≡ Ok after → xt.0 ≡ xt_of n → name_in (word_at words n) ≡ Some name
    → IsMadeMethod ns after ph words name
made_method ns after ph words name xt n e number its = record {
  first = λ none.
      text_at after ph words added.number added.is
      ∙ ap (λ l. names_shown (reverse (map f l)))
      (added.methods ∙ goes_last ms (lower name) xt (found_in ns after ph name xt None added none))
      ∙ ap names_shown (last_first f ms (lower name, xt))
      ∙ ap (λ l. l ++ 32 ∷ names_shown (reverse (map f ms))) (printed words name xt n number its)
      ∙ ap (λ l. name ++ 32 ∷ l) (sym (text_at ns ph words added.number added.was));
  keeps_place = λ old there.
      let s = stands ms (lower name) xt old (found_in ns after ph name xt (Some old) added there) in (
        reverse (map f s.behind),
        reverse (map f s.before),
        f (lower name, s.old),
        spelt_alike name (name_with_xt words s.old.0),
        text_at ns ph words added.number added.was ∙ ap (λ l. names_shown (reverse (map f l))) s.was
            ∙ ap names_shown (turned f s.before (lower name, s.old) s.behind),
        text_at after ph words added.number added.is
            ∙ ap (λ l. names_shown (reverse (map f l))) (added.methods ∙ s.is)
            ∙ ap names_shown (turned f s.before (lower name, xt) s.behind)
            ∙ ap (λ x. names_shown (reverse (map f s.behind) ++ x ∷ reverse (map f s.before)))
            (printed words name xt n number its),
      );
}
  where
    added : IsAdded ns after ph name xt
    added = is_added ns after ph name xt e

    ms : List (List ℕ × Cell)
    ms = methods_in ns added.number

    f : List ℕ × Cell → List ℕ
    f = method_name words

pub names_are_listed : NewestIsFound → NamesAreListedOnce → NamesAreListed
names_are_listed law once = record {
  global = λ ns words. (
    entries_below words (length words),
    words_listed law once words,
    ap names_shown (sym (names_of words (length words))),
  );
  method = made_method;
  no_method = λ ns ph words i at none.
      text_at ns ph words i at ∙ ap (λ l. names_shown (reverse (map (method_name words) l))) none;
}
