-- How words are found without a walk over the list: each name has its newest word, and each word the next older one
-- of its name.
use Rattle.std.specs.Prelude.{ℕ, suc, ◌≡◌, ◌≤◌, ◌<◌, true, List, length, slice_index_or, Option, Some, None}
use Rattle.arrayvec.specs.ArrayVec.{ArrayVec}
use Rattle.of_dict.specs.declared.word.Change.{Change}
use Rattle.of_dict.specs.declared.word.Change.TheVariants.{Hidden, Immediate, Kind}
use Rattle.of_dict.specs.declared.word.Word.{Word}
use Rattle.of_dict.specs.Words.{bears, capacity, has_key, longest_name, lower, name_in, newest_below, word_at}

pub record IsIndexed (words : List (Option Word)) (older : List (Option ℕ))
    (newest : ArrayVec ℕ → Option ℕ) : Type 0 where
  pub room : length words ≤ capacity
  pub links : length older ≡ length words
  pub heads : (key : ArrayVec ℕ) → newest key ≡ newest_below (has_key words key.items) (length words)
  pub chain : (n : ℕ) (name : List ℕ) → name_in (word_at words n) ≡ Some name
      → slice_index_or older n None ≡ newest_below (has_key words (lower name)) n
  pub names : (n : ℕ) (name : List ℕ) → name_in (word_at words n) ≡ Some name → length name ≤ longest_name

-- the newest word at or below a number that isn't hidden and has the name of that number's word
abbrev pub bearer : List (Option Word) → ℕ → Option (List ℕ) → Option ℕ
bearer words n None = None
bearer words n (Some name) = newest_below (bears words name) (suc n)

abbrev pub visible_from : List (Option Word) → Option ℕ → Option ℕ
visible_from words None = None
visible_from words (Some n) = bearer words n (name_in (word_at words n))

-- whether a number, if there is one, is a word's that has a name
abbrev pub IsNamed : List (Option Word) → Option ℕ → Type 0
IsNamed words None = Unit {0}
IsNamed words (Some n) = (n < length words) × ((name : List ℕ) × (name_in (word_at words n) ≡ Some name))

-- how far a search still has to go
abbrev pub left_from : Option ℕ → ℕ
left_from None = 0
left_from (Some n) = suc n

-- a word after a change that leaves its name
abbrev pub after : Change → Word → Word
after (Kind kind) w = record w { kind = kind }
after Immediate w = record w { immediate = true }
after (Hidden hidden) w = record w { hidden = hidden }
