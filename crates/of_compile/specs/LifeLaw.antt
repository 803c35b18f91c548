-- What becomes of a definition's name and number from `b(:)` on (IEEE 1275-1994, annex A, `b(:)`, `b(;)`; Forth 2012,
-- 6.1.0450, 6.1.0460).
use Rattle.std.specs.Prelude.{◌≡◌, ◌≢◌, ℕ, suc, false, ◌<◌, List, length, Some, None, Err}
use Rattle.of_stacks.specs.Throws.{compiler_nesting}
use Rattle.of_fcodes.specs.Tokens.{entry_in, unless_named}
use Rattle.of_dict.specs.declared.word.Kind.{Kind}
use Rattle.of_dict.specs.Words.{found, lower, xt_of}
use Rattle.of_compile.specs.declared.words.Pending.{Pending}
use Rattle.of_compile.specs.declared.defining.DefiningWord.TheVariants.{Colon}
use Rattle.of_compile.specs.Words.{WordsState}
use Rattle.of_compile.specs.Coding.{Coding}
use Rattle.of_compile.specs.Defining.{abandoned, closed, with_word}
use Rattle.of_compile.specs.Definitions.{closing_entry, given_up}

-- the words once `b(:)` has begun a definition
abbrev pub begun : Kind → Pending → WordsState → WordsState
begun k p w = with_word Colon k p w

pub record DefinitionsComeAndGo : Type 0 where
  -- where no definition is open, ending one throws -29, and abandoning one changes nothing
  pub none_finished : (w : WordsState) (c : Coding) → w.defining ≡ None → closing_entry w c ≡ Err compiler_nesting
  pub none_given_up : (w : WordsState) (c : Coding) → w.defining ≡ None → given_up w c ≡ (w, c)
  -- the one that was begun is open, as the next word, and none is open once it is ended or abandoned
  pub is_open : (k : Kind) (p : Pending) (w : WordsState) → (begun k p w).defining ≡ Some (length w.dictionary)
  pub is_over : (k : Kind) (p : Pending) (w : WordsState)
      → ((closed (begun k p w)).defining ≡ None) × ((abandoned (begun k p w)).defining ≡ None)
  -- while it is open, each name is found as before, its own too
  pub hidden : (k : Kind) (p : Pending) (w : WordsState) (name : List ℕ)
      → found (begun k p w).dictionary name ≡ found w.dictionary name
  -- its FCode names it at once
  pub numbered : (k : Kind) (p : Pending) (w : WordsState) → p.code.0 < length w.table
      → entry_in (begun k p w).table p.code.0 ≡ Some (record { xt = xt_of (length w.dictionary); immediate = false })
  -- once it is ended, its name is found and is it, and each other name is found as before
  pub finished : (k : Kind) (p : Pending) (w : WordsState) (own name : List ℕ)
      → p.name ≡ Some own → lower own ≡ lower name
      → found (closed (begun k p w)).dictionary name ≡ Some (length w.dictionary)
  pub other_names : (k : Kind) (p : Pending) (w : WordsState) (own name : List ℕ)
      → p.name ≡ Some own → lower own ≢ lower name
      → found (closed (begun k p w)).dictionary name ≡ found w.dictionary name
  pub nameless : (k : Kind) (p : Pending) (w : WordsState) (name : List ℕ)
      → p.name ≡ None → found (closed (begun k p w)).dictionary name ≡ found w.dictionary name
  -- once it is abandoned, each name is found as before it was begun, and its place in the dictionary stays used
  pub given_up : (k : Kind) (p : Pending) (w : WordsState) (name : List ℕ)
      → found (abandoned (begun k p w)).dictionary name ≡ found w.dictionary name
  pub place_used : (k : Kind) (p : Pending) (w : WordsState)
      → length (abandoned (begun k p w)).dictionary ≡ suc (length w.dictionary)
  -- what named the open word is unassigned once that is abandoned, and the other FCodes name what they named
  pub unassigned : (w : WordsState) (n code : ℕ) → w.defining ≡ Some n
      → entry_in (abandoned w).table code ≡ unless_named (xt_of n) (entry_in w.table code)
