-- What `words` prints: the names of the active package's methods, or else those of the dictionary (Forth 2012,
-- 15.6.1.2465; IEEE 1275-1994, annex A, `words`).
use Rattle.std.specs.Prelude.{ℕ, zero, suc, nat_eq, List, [], ◌∷◌, ◌++◌, length, map, reverse, Option, Some, None}
use Rattle.std.specs.Prelude.{if◌then◌else◌, option_and_then}
use Rattle.std.specs.List.{cons_option}
use Rattle.std.specs.Str.{str_eq_ignore_ascii_case}
use Rattle.of_cells.specs.declared.cells.Cell.{Cell}
use Rattle.of_dict.specs.declared.word.Word.{Word}
use Rattle.of_dict.specs.Words.{listed, name_in, newest_below, word_at, xt_of}
use Rattle.of_nodes.specs.declared.phandles.Phandle.{Phandle}
use Rattle.of_nodes.specs.declared.tree.Node.{Node}
use Rattle.of_nodes.specs.Nodes.{methods_in, number_of}

-- names as they are printed: each with a space behind it, and a newline behind all
abbrev pub names_shown : List (List ℕ) → List ℕ
names_shown [] = 10 ∷ []
names_shown (name ∷ names) = name ++ 32 ∷ names_shown names

-- a name with a space behind it, where there is one
abbrev pub shown_if : Option (List ℕ) → List ℕ
shown_if None = []
shown_if (Some name) = name ++ 32 ∷ []

-- the names that the dictionary lists in the places below a number, the newest place first
abbrev pub listed_below : List (Option Word) → ℕ → List (List ℕ)
listed_below words zero = []
listed_below words (suc n) = cons_option (listed words n) (listed_below words n)

-- the name of the own word that has an execution token
abbrev pub name_with_xt : List (Option Word) → ℕ → Option (List ℕ)
name_with_xt words xt =
    option_and_then (λ n. name_in (word_at words n)) (newest_below (λ n. nat_eq (xt_of n) xt) (length words))

-- a name as a word spells it, if that is this name but for the case of ASCII letters
abbrev pub spelt_as : List ℕ → Option (List ℕ) → List ℕ
spelt_as name None = name
spelt_as name (Some spelling) = if str_eq_ignore_ascii_case spelling name then spelling else name

-- a method's name, which is kept in lower case, as its word spells it
abbrev pub method_name : List (Option Word) → List ℕ × Cell → List ℕ
method_name words e = spelt_as e.0 (name_with_xt words e.1.0)

-- the methods of the node of a number, if there is one; the first was made first
abbrev pub methods_of : List Node → Option ℕ → List (List ℕ × Cell)
methods_of ns None = []
methods_of ns (Some i) = methods_in ns i

-- the names that `words` prints, the newest place first
abbrev pub names_listed : List Node → Option Phandle → List (Option Word) → List (List ℕ)
names_listed ns None words = listed_below words (length words)
names_listed ns (Some ph) words = reverse (map (method_name words) (methods_of ns (number_of (length ns) ph)))

-- what `words` prints
abbrev pub words_text : List Node → Option Phandle → List (Option Word) → List ℕ
words_text ns home words = names_shown (names_listed ns home words)
