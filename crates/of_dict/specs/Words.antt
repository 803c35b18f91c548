-- The own words that were ever made, in the order of making: a word's number is its place in the list, and None
-- stands where a word was taken away (Forth 2012, 3.3.1; IEEE 1275-1994, 5.3.3.1).
use Rattle.std.specs.Prelude.{ℕ, suc, zero, ◌+◌, ◌*◌, Bool, false, ◌&&◌, not, nat_eq, List, map, length}
use Rattle.std.specs.Prelude.{slice_index_or, Option, Some, None, option_and_then, if◌then◌else◌, is_some}
use Rattle.std.specs.Char.{to_ascii_lowercase}
use Rattle.std.specs.Cmp.Lexicographic.{pointwise}
use Rattle.of_dict.specs.declared.word.Kind.{Kind}
use Rattle.of_dict.specs.declared.word.Word.{Word}

-- how many own words can ever be made
abbrev pub capacity : ℕ
capacity = 8192

-- how many bytes a name has at most
abbrev pub longest_name : ℕ
longest_name = 31

-- the execution token of an own word: 331 written words come before the first, and four numbers lie between two
abbrev pub xt_of : ℕ → ℕ
xt_of n = 3221226796 + 4 * n

-- the word of a number, if there is one
abbrev pub word_at : List (Option Word) → ℕ → Option Word
word_at words n = slice_index_or words n None

-- what a word is named, if it is
abbrev pub name_in : Option Word → Option (List ℕ)
name_in None = None
name_in (Some w) = w.name

abbrev pub kind_in : Option Word → Option Kind
kind_in None = None
kind_in (Some w) = Some w.kind

abbrev pub is_immediate_in : Option Word → Bool
is_immediate_in None = false
is_immediate_in (Some w) = w.immediate

abbrev pub is_hidden_in : Option Word → Bool
is_hidden_in None = false
is_hidden_in (Some w) = w.hidden

-- a name with its ASCII letters in lower case: names are compared so
abbrev pub lower : List ℕ → List ℕ
lower name = map to_ascii_lowercase name

-- whether there is a name, and the given one is it in lower case
abbrev pub is_named : List ℕ → Option (List ℕ) → Bool
is_named key None = false
is_named key (Some name) = pointwise nat_eq (lower name) key

-- whether the word of a number has the name that is this one in lower case
abbrev pub has_key : List (Option Word) → List ℕ → ℕ → Bool
has_key words key n = is_named key (name_in (word_at words n))

-- whether the word of a number has a name, whatever the case of ASCII letters, and isn't hidden
abbrev pub bears : List (Option Word) → List ℕ → ℕ → Bool
bears words name n = has_key words (lower name) n && not (is_hidden_in (word_at words n))

-- the greatest number below n that passes, if one does
abbrev pub newest_below : (ℕ → Bool) → ℕ → Option ℕ
newest_below passes zero = None
newest_below passes (suc n) = if passes n then Some n else newest_below passes n

-- the newest word of a name that isn't hidden
abbrev pub found : List (Option Word) → List ℕ → Option ℕ
found words name = newest_below (bears words name) (length words)

-- the name that is printed in a word's place: an older word that bears it has the place, and the newest its spelling
abbrev pub spelling : List (Option Word) → ℕ → Option (List ℕ) → Option (List ℕ)
spelling words n None = None
spelling words n (Some name) =
    if is_some (newest_below (bears words name) n) then None
    else option_and_then (λ m. name_in (word_at words m)) (found words name)

-- what `words` prints in the place of a number: nothing for a word that is hidden or has no name
abbrev pub listed : List (Option Word) → ℕ → Option (List ℕ)
listed words n = if is_hidden_in (word_at words n) then None else spelling words n (name_in (word_at words n))

-- the newest word that still exists
abbrev pub newest : List (Option Word) → Option ℕ
newest words = newest_below (λ n. is_some (word_at words n)) (length words)
