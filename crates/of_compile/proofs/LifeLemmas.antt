-- What becomes of a definition's name and number.
use Rattle.std.proofs.Common.{◌≡◌, ℕ, zero, suc, Bool, true, false, not, ◌&&◌, List, [], ◌∷◌, ◌++◌, length, Option}
use Rattle.std.proofs.Common.{Some, None, ◌≢◌, refl, sym, ◌∙◌, ap, arith, length-append}
use Rattle.std.proofs.lemmas.Bool.{eq-eqb}
use Rattle.of_fcodes.specs.Tokens.{TableIsMap, entry_in}
use Rattle.of_dict.specs.declared.word.Kind.{Kind}
use Rattle.of_dict.specs.declared.word.Word.{Word}
use Rattle.of_dict.specs.Words.{bears, found, is_hidden_in, is_named, lower, name_in, newest_below, xt_of}
use Rattle.of_dict.specs.Calls.{made}
use Rattle.of_dict.specs.Laws.{ChangesAreFound}
use Rattle.of_compile.specs.declared.words.Pending.{Pending}
use Rattle.of_compile.specs.Words.{WordsState}
use Rattle.of_compile.specs.Defining.{abandoned, closed, dropped}
use Rattle.of_compile.specs.Definitions.{closing}
use Rattle.of_compile.specs.LifeLaw.{DefinitionsComeAndGo, begun}
use Rattle.of_compile.proofs.WordsLemmas.{changed_pushed, same_below}

-- whether a word alone is found by a name
abbrev bears_it : List ℕ → Option Word → Bool
bears_it name w = is_named (lower name) (name_in w) && not (is_hidden_in w)

-- a word that can't be found by a name is for that as none
bears_none : (words : List (Option Word)) (w : Option Word) (name : List ℕ) → bears_it name w ≡ false
    → (k : ℕ) → bears (words ++ w ∷ []) name k ≡ bears (words ++ None ∷ []) name k
bears_none [] w name e zero = e
bears_none [] w name e (suc k) = refl
bears_none (x ∷ words) w name e zero = refl
bears_none (x ∷ words) w name e (suc k) = bears_none words w name e k

length_pushed : (words : List (Option Word)) (w : Option Word) → length (words ++ w ∷ []) ≡ suc (length words)
length_pushed words w = omega (arith, length-append words (w ∷ []))

-- so what is found stays as it was
found_pushed : ChangesAreFound → (words : List (Option Word)) (w : Option Word) (name : List ℕ)
    → bears_it name w ≡ false → found (words ++ w ∷ []) name ≡ found words name
found_pushed law words w name e =
    ap (newest_below (bears (words ++ w ∷ []) name)) (length_pushed words w ∙ sym (length_pushed words None))
    ∙ same_below (bears (words ++ w ∷ []) name) (bears (words ++ None ∷ []) name) (length (words ++ None ∷ []))
    (bears_none words w name e)
    ∙ law.abandoned words name

and_false : (b : Bool) → (b && false) ≡ false
and_false true = refl
and_false false = refl

hidden : ChangesAreFound → (k : Kind) (p : Pending) (w : WordsState) (name : List ℕ)
    → found (begun k p w).dictionary name ≡ found w.dictionary name
hidden law k p w name =
    found_pushed law w.dictionary (Some (record (made p.name k) { hidden = true })) name
    (and_false (is_named (lower name) p.name))

-- the dictionary once the definition is ended
closed_is : (k : Kind) (p : Pending) (w : WordsState)
    → (closed (begun k p w)).dictionary ≡ w.dictionary ++ Some (made p.name k) ∷ []
closed_is k p w =
    changed_pushed (λ x. record x { hidden = false }) w.dictionary (record (made p.name k) { hidden = true })

-- the same of a definition with a name
closed_as : (k : Kind) (p : Pending) (w : WordsState) (name : Option (List ℕ)) → p.name ≡ name
    → (closed (begun k p w)).dictionary ≡ w.dictionary ++ Some (made name k) ∷ []
closed_as k p w name e = closed_is k p w ∙ ap (λ n. w.dictionary ++ Some (made n k) ∷ []) e

finished : ChangesAreFound → (k : Kind) (p : Pending) (w : WordsState) (own name : List ℕ) → p.name ≡ Some own
    → lower own ≡ lower name → found (closed (begun k p w)).dictionary name ≡ Some (length w.dictionary)
finished law k p w own name e same =
    ap (λ d. found d name) (closed_as k p w (Some own) e) ∙ law.new_name w.dictionary own name k same

other_names : ChangesAreFound → (k : Kind) (p : Pending) (w : WordsState) (own name : List ℕ) → p.name ≡ Some own
    → lower own ≢ lower name → found (closed (begun k p w)).dictionary name ≡ found w.dictionary name
other_names law k p w own name e other =
    ap (λ d. found d name) (closed_as k p w (Some own) e) ∙ law.other_names w.dictionary own name k other

nameless : ChangesAreFound → (k : Kind) (p : Pending) (w : WordsState) (name : List ℕ) → p.name ≡ None
    → found (closed (begun k p w)).dictionary name ≡ found w.dictionary name
nameless law k p w name e =
    ap (λ d. found d name) (closed_as k p w None e)
    ∙ found_pushed law w.dictionary (Some (made None k)) name refl

abandoned_is : ChangesAreFound → (k : Kind) (p : Pending) (w : WordsState)
    → (abandoned (begun k p w)).dictionary ≡ w.dictionary ++ None ∷ []
abandoned_is law k p w = law.removed_word w.dictionary (record (made p.name k) { hidden = true })

pub come_and_go : ChangesAreFound → TableIsMap → DefinitionsComeAndGo
come_and_go law table = record {
  none_finished = λ w c e. ap (λ o. closing o w c) e;
  none_given_up = λ w c e. rw e refl;
  is_open = λ k p w. refl;
  is_over = λ k p w. (refl, refl);
  hidden = hidden law;
  numbered = λ k p w small.
      table.assigned_entry w.table p.code.0 p.code.0 _ small ∙ rw (eq-eqb p.code.0 p.code.0 refl) refl;
  finished = finished law;
  other_names = other_names law;
  nameless = nameless law;
  given_up = λ k p w name. ap (λ d. found d name) (abandoned_is law k p w) ∙ law.abandoned w.dictionary name;
  place_used = λ k p w. ap length (abandoned_is law k p w) ∙ length_pushed w.dictionary None;
  unassigned = λ w n code e.
      ap (λ o. entry_in (dropped o w).table code) e ∙ table.cleared_entry w.table (xt_of n) code;
}
