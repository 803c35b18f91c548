-- What the calls of the dictionary say of one another, by the definitions that their contracts cite.
use Rattle.std.specs.Prelude.{ℕ, ◌≡◌, ◌≢◌, ◌<◌, true, false, List, [], ◌∷◌, ◌++◌, length, Option, Some, None}
use Rattle.of_dict.specs.declared.word.Kind.{Kind}
use Rattle.of_dict.specs.declared.word.Word.{Word}
use Rattle.of_dict.specs.Words.{bears, found, has_key, is_hidden_in, listed, lower, name_in, newest_below, word_at}
use Rattle.of_dict.specs.Calls.{changed, made, removed}

-- a number is the newest of those whose words bear a name
pub record IsNewest (words : List (Option Word)) (name : List ℕ) (n : ℕ) : Type 0 where
  pub within : n < length words
  pub borne : bears words name n ≡ true
  pub above : (k : ℕ) → n < k → bears words name k ≡ false

-- a search gives the newest word that bears the name, and nothing exactly where none does
pub record NewestIsFound : Type 0 where
  pub newest : (words : List (Option Word)) (name : List ℕ) (n : ℕ)
      → found words name ≡ Some n → IsNewest words name n
  pub is_found : (words : List (Option Word)) (name : List ℕ) (n : ℕ)
      → IsNewest words name n → found words name ≡ Some n
  pub no_word : (words : List (Option Word)) (name : List ℕ)
      → found words name ≡ None → (k : ℕ) → bears words name k ≡ false
  pub is_no_word : (words : List (Option Word)) (name : List ℕ)
      → ((k : ℕ) → bears words name k ≡ false) → found words name ≡ None
  -- the case of ASCII letters doesn't count
  pub letters : (words : List (Option Word)) (name other : List ℕ)
      → lower name ≡ lower other → found words name ≡ found words other

-- the words with one more that has a name
abbrev pub with_name : List (Option Word) → List ℕ → Kind → List (Option Word)
with_name words name kind = words ++ Some (made (Some name) kind) ∷ []

abbrev pub with_hidden : List (Option Word) → ℕ → List (Option Word)
with_hidden words n = changed (λ w. record w { hidden = true }) words n

abbrev pub with_revealed : List (Option Word) → ℕ → List (Option Word)
with_revealed words n = changed (λ w. record w { hidden = false }) words n

-- what is found after a call
pub record ChangesAreFound : Type 0 where
  -- a new word has the next number, its name as it was given and its kind, and is neither immediate nor hidden
  pub new_word : (words : List (Option Word)) (name : Option (List ℕ)) (kind : Kind)
      → word_at (words ++ Some (made name kind) ∷ []) (length words)
      ≡ Some (record { name = name; immediate = false; hidden = false; kind = kind })
  -- a new word is found by its name, and no other name is found otherwise
  pub new_name : (words : List (Option Word)) (name other : List ℕ) (kind : Kind)
      → lower name ≡ lower other → found (with_name words name kind) other ≡ Some (length words)
  pub other_names : (words : List (Option Word)) (name other : List ℕ) (kind : Kind)
      → lower name ≢ lower other → found (with_name words name kind) other ≡ found words other
  -- once the word that is found is hidden, the next older one is found that bears the name
  pub hidden_word : (words : List (Option Word)) (name : List ℕ) (n : ℕ)
      → found words name ≡ Some n → found (with_hidden words n) name ≡ newest_below (bears words name) n
  pub not_hidden : (words : List (Option Word)) (name : List ℕ) (n : ℕ)
      → has_key words (lower name) n ≡ false → found (with_hidden words n) name ≡ found words name
  -- revealed again, the words are as they were
  pub revealed_word : (words : List (Option Word)) (n : ℕ)
      → is_hidden_in (word_at words n) ≡ false → with_revealed (with_hidden words n) n ≡ words
  -- a word that was made and taken away leaves its number used, and every name is found as before
  pub removed_word : (words : List (Option Word)) (w : Word) → removed (words ++ Some w ∷ []) ≡ words ++ None ∷ []
  pub numbers_stay : (words : List (Option Word)) → length (removed words) ≡ length words
  pub abandoned : (words : List (Option Word)) (name : List ℕ)
      → found (words ++ None ∷ []) name ≡ found words name

-- what `words` prints: each name that is found stands once, where it was first borne, and is spelt as last defined
pub record NamesAreListedOnce : Type 0 where
  pub spelt : (words : List (Option Word)) (name : List ℕ) (m : ℕ)
      → found words name ≡ Some m → (n : ℕ) × (listed words n ≡ name_in (word_at words m))
  pub once : (words : List (Option Word)) (n m : ℕ) (a b : List ℕ)
      → listed words n ≡ Some a → listed words m ≡ Some b → lower a ≡ lower b → n ≡ m
  pub borne : (words : List (Option Word)) (n : ℕ) (name : List ℕ)
      → listed words n ≡ Some name → bears words name n ≡ true
  -- a name that is defined again keeps its place; a new one has the newest
  pub kept_place : (words : List (Option Word)) (n : ℕ) (old name : List ℕ) (kind : Kind)
      → listed words n ≡ Some old → lower old ≡ lower name → listed (with_name words name kind) n ≡ Some name
  pub new_place : (words : List (Option Word)) (name : List ℕ) (kind : Kind)
      → found words name ≡ None → listed (with_name words name kind) (length words) ≡ Some name
