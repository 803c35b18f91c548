-- Words by their names and numbers by their digits, read again.
use Rattle.std.proofs.Common.{◌≡◌, ℕ, ◌≤◌, ◌+◌, ◌||◌, Bool, true, false, nat_eq, nat_lt, List, [], ◌∷◌}
use Rattle.std.proofs.Common.{◌++◌, length, Option, Some, None, Result, Ok, refl, ap, sym, ◌∙◌, arith, if◌then◌else◌}
use Rattle.std.proofs.Common.{option_map, subst, get_or, ◌⊎◌, inl, inr}
use Rattle.std.specs.Prelude.{codes}
use Rattle.std.specs.List.{list_all}
use Rattle.std.specs.Option.{option_or, ok_or}
use Rattle.std.proofs.lemmas.Bool.{and_parts, eq-eqb, eqb-true, false_from_ne_true, ltb-true}
use Rattle.std.proofs.lemmas.List.Elements.{All-nil}
use Rattle.std.proofs.lemmas.List.Sums.{AllPass-from_list_all}
use Rattle.of_cells.specs.declared.cells.Cell.{Cell}
use Rattle.of_stacks.specs.declared.throws.Throw.{Throw}
use Rattle.of_stacks.specs.Throws.{undefined_word}
use Rattle.of_fcodes.specs.declared.words.Word.{Word as Written}
use Rattle.of_fcodes.specs.declared.words.Word.TheVariants as word
use Rattle.of_fcodes.specs.Finding.{FindsEachWord, word_with_xt}
use Rattle.of_fcodes.specs.Finding.{xt_of as written_xt}
use Rattle.of_dict.specs.Words.{is_immediate_in}
use Rattle.of_compile.specs.Words.{own_word}
use Rattle.of_format.specs.Reading.{ReadsBack}
use Rattle.of_scan.specs.Laws.{WordsAreRead}
use Rattle.of_scan.specs.Scan.{next_word, rest_at}
use Rattle.of_scan.specs.Words.{IsWord}
use Rattle.of_text.specs.declared.words.TextWord.TheVariants as text
use Rattle.of_text.specs.Names.{Names, known_name, own_named, written_named, xt_named}
use Rattle.of_text.specs.Reading.{Named, own_or_written, word_or_end, word_read, written_read}
use Rattle.of_compile.specs.declared.element.PlainItem.TheVariants as P
use Rattle.of_see.specs.SeeText.{name_or_number, number_shown, plain_shown}
use Rattle.of_see.specs.SeeText.{acts, compiling_name, finds, found_name, is_one_word, is_xt, name_at}
use Rattle.of_see.specs.SeeText.{name_if, stored_name}
use Rattle.of_see.specs.Laws.{IsReadAs, WordsReadBack}
use Rattle.of_see.proofs.NumbersBack.{count_back, number_back}

-- ---- a name that is printed finds its word

-- what a test of a name says
record Served (n : Names) (xt : ℕ) (name : List ℕ) : Type 0 where
  is_word : IsWord name
  finds : xt_named n name ≡ Some (record { 0 = xt })

is_same : (xt : ℕ) (found : Option Cell) → is_xt xt found ≡ true → found ≡ Some (record { 0 = xt })
is_same xt None e = absurd cc
is_same xt (Some c) e = ap (λ x. Some (record { 0 = x })) (eqb-true c.0 xt e)

served : (n : Names) (xt : ℕ) (name : List ℕ) → finds n name xt ≡ true → Served n xt name
served n xt name e =
    let both = and_parts (is_one_word name) (is_xt xt (xt_named n name)) e in
    let word = and_parts (nat_lt 0 (length name)) (list_all (λ b. nat_lt 0x20 b) name) both.0 in
    record {
      is_word = (
        ltb-true 0 (length name) word.0,
        λ i d l. ltb-true 0x20 (get_or name i d) (AllPass-from_list_all (λ b. nat_lt 0x20 b) name word.1 i d l),
      );
      finds = is_same xt (xt_named n name) both.1;
    }

by_name : (n : Names) (xt : ℕ) (own : Option (List ℕ)) (name : List ℕ) → name_if n xt own ≡ Some name
    → Served n xt name
by_name n xt None name e = absurd cc
by_name n xt (Some own) name e = by_test (finds n own xt) refl e
  where
    by_test : (b : Bool) → finds n own xt ≡ b → (if b then Some own else None) ≡ Some name → Served n xt name
    by_test true f e = let same : own ≡ name = cc in subst (λ x. Served n xt x) same (served n xt own f)
    by_test false f e = absurd cc

found_served : (n : Names) (xt : ℕ) (name : List ℕ) → found_name n xt ≡ Some name → Served n xt name
found_served n xt name e = by_name n xt (name_at n.words xt) name e

-- ---- what is stored into

stored : (n : Names) (self xt : ℕ) (name : List ℕ) → stored_name n self xt ≡ Some name → Served n xt name
stored n self xt name e = by_test (nat_eq xt self) e
  where
    by_test : (b : Bool) → (if b then None else found_name n xt) ≡ Some name → Served n xt name
    by_test true e = absurd cc
    by_test false e = found_served n xt name e

known : (n : Names) (xt : ℕ) (name : List ℕ) → Served n xt name → known_name n name ≡ Ok (record { 0 = xt })
known n xt [] s = absurd (omega (arith, s.is_word.0))
known n xt (b ∷ name) s = ap (λ o. ok_or o undefined_word) s.finds

-- ---- what is called

-- a written word that doesn't act where it is read has nothing behind it
ordinary : (n : Names) (base : Result ℕ Throw) (x : Named) (w : Written) → acts (Some w) ≡ false
    → written_read (Some w) n base x ≡ (text.Found (record { 0 = written_xt w }) false, x.1)
ordinary n base x (word.Stream w) e = refl
ordinary n base x (word.Primitive w) e = refl
ordinary n base x (word.Printing w) e = refl
ordinary n base x (word.Heap w) e = refl
ordinary n base x (word.Keys w) e = refl
ordinary n base x (word.Returns w) e = refl
ordinary n base x (word.Dictionary w) e = refl
ordinary n base x (word.Throws w) e = refl
ordinary n base x (word.Properties w) e = refl
ordinary n base x (word.Tree w) e = refl
ordinary n base x (word.Devices w) e = refl
ordinary n base x (word.Console w) e = refl
ordinary n base x (word.Parsing w) e = absurd cc
ordinary n base x (word.Compiling w) e = absurd cc

-- the number of a cell, if there is one
abbrev number_or_zero : Option Cell → ℕ
number_or_zero None = 0
number_or_zero (Some c) = c.0

nothing_found : (xt : ℕ) → ◌≡◌ {A = Option Cell} None (Some (record { 0 = xt })) → ⊥
nothing_found xt e = absurd cc

no_name : (name : List ℕ) → ◌≡◌ {A = Option (List ℕ)} None (Some name) → ⊥
no_name name e = absurd cc

module _ (law : FindsEachWord) (n : Names) (base : Result ℕ Throw) (xt : ℕ) where
  -- the word that a name finds, if it is this one and doesn't act where it is read
  written_found : (x : Named) (o : Option Written) → option_map {U = Cell} (λ w. record { 0 = written_xt w }) o
      ≡ Some (record { 0 = xt }) → acts (word_with_xt xt) ≡ false
      → written_read o n base x ≡ (text.Found (record { 0 = xt }) false, x.1)
  written_found x None e a = absurd (nothing_found xt e)
  written_found x (Some w) e a =
      let same : written_xt w ≡ xt = ap number_or_zero e in
      let found : word_with_xt xt ≡ Some w = ap word_with_xt (sym same) ∙ law.by_xt w in
      let quiet : acts (Some w) ≡ false = ap acts (sym found) ∙ a in
      ordinary n base x w quiet ∙ ap (λ t. (text.Found (record { 0 = t }) false, x.1)) same

  own_found : (x : Named) (own : Option Cell) (o : Option Written)
      → option_or own (option_map {U = Cell} (λ w. record { 0 = written_xt w }) o) ≡ Some (record { 0 = xt })
      → o ≡ written_named x.0 → acts (word_with_xt xt) ≡ false → is_immediate_in (own_word n.words xt) ≡ false
      → own_or_written own n base x ≡ (text.Found (record { 0 = xt }) false, x.1)
  own_found x (Some c) o e w a i =
      let same : c.0 ≡ xt = ap number_or_zero e in
      ap (λ t. (text.Found (record { 0 = t }) (is_immediate_in (own_word n.words t)), x.1)) same
      ∙ ap (λ b. (text.Found (record { 0 = xt }) b, x.1)) i
  own_found x None o e w a i = ap (λ v. written_read v n base x) (sym w) ∙ written_found x o e a

  called : (at : ℕ) (name more : List ℕ) → WordsAreRead → acts (word_with_xt xt) ≡ false
      → is_immediate_in (own_word n.words xt) ≡ false → Served n xt name
      → word_read n base (rest_at at (name ++ 32 ∷ more))
      ≡ (text.Found (record { 0 = xt }) false, rest_at (at + length name) (32 ∷ more))
  called at name more words a i s =
      let r = rest_at at (name ++ 32 ∷ more) in
      let sum : at + 0 + length name ≡ at + length name = omega arith in
      let next : next_word r ≡ Some (name, rest_at (at + length name) (32 ∷ more)) =
      words.word at [] name (32 ∷ more) (All-nil (λ b. b ≤ 0x20)) s.is_word (omega arith)
      ∙ ap (λ k. Some (name, rest_at k (32 ∷ more))) sum in
      ap (λ o. word_or_end o n base r) next
      ∙ own_found (name, rest_at (at + length name) (32 ∷ more)) (own_named n name) (written_named name) s.finds refl
      a i

  call_back : (at : ℕ) (name more : List ℕ) → WordsAreRead → compiling_name n xt ≡ Some name
      → word_read n base (rest_at at (name ++ 32 ∷ more))
      ≡ (text.Found (record { 0 = xt }) false, rest_at (at + length name) (32 ∷ more))
  call_back at name more words e =
      by_tests (acts (word_with_xt xt)) (is_immediate_in (own_word n.words xt)) refl refl e
    where
      by_tests : (a i : Bool) → acts (word_with_xt xt) ≡ a → is_immediate_in (own_word n.words xt) ≡ i
          → (if a || i then None else found_name n xt) ≡ Some name
          → word_read n base (rest_at at (name ++ 32 ∷ more))
          ≡ (text.Found (record { 0 = xt }) false, rest_at (at + length name) (32 ∷ more))
      by_tests true i is_a is_i e = absurd (no_name name e)
      by_tests false true is_a is_i e = absurd (no_name name e)
      by_tests false false is_a is_i e = called at name more words is_a is_i (found_served n xt name e)

-- what is printed of a call of another word
call_shown_back : WordsAreRead → FindsEachWord → (n : Names) (xt : Cell) (o : Option (List ℕ))
    → compiling_name n xt.0 ≡ o
    → IsReadAs n xt (name_or_number xt.0 o [] (codes " compile, ]"))
    ⊎ (name_or_number xt.0 o [] (codes " compile, ]") ≡ codes "[ " ++ number_shown xt.0 ++ codes " compile, ]")
call_shown_back words written n xt (Some name) e =
    inl (λ base at more. call_back written n base xt.0 at name more words e)
call_shown_back words written n xt None e = inr refl

store_shown_back : (n : Names) (self : ℕ) (xt : Cell) (o : Option (List ℕ)) → stored_name n self xt.0 ≡ o
    → ((name : List ℕ) × (name_or_number xt.0 o (codes "to ") (codes " ] to,") ≡ codes "to " ++ name) × IsWord name
    × (known_name n name ≡ Ok xt))
    ⊎ (name_or_number xt.0 o (codes "to ") (codes " ] to,") ≡ codes "[ " ++ number_shown xt.0 ++ codes " ] to,")
store_shown_back n self xt (Some name) e =
    let served = stored n self xt.0 name e in
    inl (name, refl, served.is_word, known n xt.0 name served)
store_shown_back n self xt None e = inr refl

recursion : (n : Names) (xt : ℕ) (b : Bool) → b ≡ true
    → (if b then codes "recurse" else name_or_number xt (compiling_name n xt) [] (codes " compile, ]"))
    ≡ codes "recurse"
recursion n xt true e = refl
recursion n xt false e = absurd cc

another : WordsAreRead → FindsEachWord → (n : Names) (xt : Cell) (b : Bool) → b ≡ false
    → (shown : List ℕ) → shown ≡ (if b then codes "recurse"
    else name_or_number xt.0 (compiling_name n xt.0) [] (codes " compile, ]"))
    → IsReadAs n xt shown ⊎ (shown ≡ codes "[ " ++ number_shown xt.0 ++ codes " compile, ]")
another words written n xt true e shown s = absurd cc
another words written n xt false e shown s =
    subst (λ x. IsReadAs n xt x ⊎ (x ≡ codes "[ " ++ number_shown xt.0 ++ codes " compile, ]")) (sym s)
    (call_shown_back words written n xt (compiling_name n xt.0) refl)

pub words_read_back : WordsAreRead → FindsEachWord → ReadsBack → WordsReadBack
words_read_back words written numbers = record {
  itself = λ n m xt. recursion n xt.0 (nat_eq xt.0 xt.0) (eq-eqb xt.0 xt.0 refl);
  call = λ n m self xt other.
      another words written n xt (nat_eq xt.0 self) (false_from_ne_true (nat_eq xt.0 self) (λ e.
      other (eqb-true xt.0 self e))) (plain_shown n m self (P.Call xt)) refl;
  store = λ n m self xt. store_shown_back n self xt (stored_name n self xt.0) refl;
  literal = λ n m self x l. number_back numbers x.0 l;
  number = number_back numbers;
  count = count_back numbers;
}
