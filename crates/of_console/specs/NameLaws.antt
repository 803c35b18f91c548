-- What `words` says of the names that are found (Forth 2012, 15.6.1.2465; IEEE 1275-1994, annex A, `words`).
use Rattle.std.specs.Prelude.{ℕ, ◌≡◌, ◌≢◌, ◌<◌, true, false, List, [], ◌∷◌, ◌++◌, length, map, Option, Some, None, Ok}
use Rattle.std.specs.List.{AllPairs, Contains}
use Rattle.of_cells.specs.declared.cells.Cell.{Cell}
use Rattle.of_dict.specs.declared.word.Word.{Word}
use Rattle.of_dict.specs.Words.{bears, found, lower, name_in, word_at, xt_of}
use Rattle.of_nodes.specs.declared.phandles.Phandle.{Phandle}
use Rattle.of_nodes.specs.declared.tree.Node.{Node}
use Rattle.of_nodes.specs.Nodes.{method_added, method_found, methods_in, number_of}
use Rattle.of_console.specs.Names.{names_shown, words_text}

-- These names, each with its place, are what `words` prints of a dictionary.
pub record AreWords (words : List (Option Word)) (entries : List (ℕ × List ℕ)) : Type 0 where
  -- a name has the place of the oldest word that bears it and isn't hidden, and is spelt as the newest is
  pub borne : (e : ℕ × List ℕ) → Contains entries e → bears words e.1 e.0 ≡ true
  pub oldest : (e : ℕ × List ℕ) (k : ℕ) → Contains entries e → k < e.0 → bears words e.1 k ≡ false
  pub spelt : (e : ℕ × List ℕ) → Contains entries e
      → (m : ℕ) × (found words e.1 ≡ Some m) × (name_in (word_at words m) ≡ Some e.1)
  -- each name that is found stands there, and stands there once, the newest place first
  pub each : (name : List ℕ) (m : ℕ) → found words name ≡ Some m
      → (e : ℕ × List ℕ) × Contains entries e × (name_in (word_at words m) ≡ Some e.1)
  pub once : AllPairs (λ a b. lower b.1 ≢ lower a.1) entries
  pub order : AllPairs (λ a b. b.0 < a.0) entries

-- What a package prints where a word is made the method of the name that the word has.
pub record IsMadeMethod (ns after : List Node) (ph : Phandle) (words : List (Option Word)) (name : List ℕ) : Type 0
  where
    -- a new name stands first
    pub first : method_found ns ph name ≡ Ok None
        → words_text after (Some ph) words ≡ name ++ 32 ∷ words_text ns (Some ph) words
    -- one that is there keeps its place, and is spelt anew
    pub keeps_place : (xt : Cell) → method_found ns ph name ≡ Ok (Some xt)
        → (before behind : List (List ℕ)) × (old : List ℕ) × (lower old ≡ lower name)
        × (words_text ns (Some ph) words ≡ names_shown (before ++ old ∷ behind))
        × (words_text after (Some ph) words ≡ names_shown (before ++ name ∷ behind))

pub record NamesAreListed : Type 0 where
  pub global : (ns : List Node) (words : List (Option Word))
      → (entries : List (ℕ × List ℕ)) × AreWords words entries
      × (words_text ns None words ≡ names_shown (map (λ e. e.1) entries))
  pub method : (ns after : List Node) (ph : Phandle) (words : List (Option Word)) (name : List ℕ) (xt : Cell) (n : ℕ)
      → method_added ns ph name xt ≡ Ok after → xt.0 ≡ xt_of n → name_in (word_at words n) ≡ Some name
      → IsMadeMethod ns after ph words name
  -- a package without methods has the newline alone
  pub no_method : (ns : List Node) (ph : Phandle) (words : List (Option Word)) (i : ℕ)
      → number_of (length ns) ph ≡ Some i → methods_in ns i ≡ [] → words_text ns (Some ph) words ≡ 10 ∷ []
