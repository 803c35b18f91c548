-- What holds of the words and strings of every text.
use Rattle.std.specs.Prelude.{◌≡◌, ◌≢◌, ℕ, ◌+◌, List, [], ◌∷◌, ◌++◌, length, Some, None}
use Rattle.std.specs.List.{All}
use Rattle.of_scan.specs.Parts.{part_to}
use Rattle.of_scan.specs.Scan.{Found, rest_at, start_of, next_word, plain_string}
use Rattle.of_scan.specs.Strings.{IsWithin}
use Rattle.of_scan.specs.Words.{IsWord, AreBlanks, EndsWord}

-- a text of blanks, a word and what ends the word gives that word, with its place and what follows it, and a text of
-- blanks alone gives none; each text is one of these two
pub record WordsAreRead : Type 0 where
  pub word : (at : ℕ) (blanks word more : List ℕ) → AreBlanks blanks → IsWord word → EndsWord more
      → next_word (rest_at at (blanks ++ (word ++ more)))
      ≡ Some (word, rest_at (at + length blanks + length word) more)
  pub start : (at : ℕ) (blanks word more : List ℕ) → AreBlanks blanks → IsWord word
      → start_of (rest_at at (blanks ++ (word ++ more))) ≡ at + length blanks
  pub none : (at : ℕ) (blanks : List ℕ) → AreBlanks blanks → next_word (rest_at at blanks) ≡ None

-- where a string was found, the text is a byte in the place of the blank, the string, the byte that ends it, and what
-- was left
abbrev pub IsFoundIn : ℕ → List ℕ → Found → Type 0
IsFoundIn end text None = Unit {0}
IsFoundIn end text (Some r) =
    (b : ℕ) × (text ≡ b ∷ (r.0 ++ end ∷ r.1)) × (b ≢ 10) × IsWithin end r.0

-- a string on a line with the byte that ends it is found, and nothing else is
pub record StringsAreRead : Type 0 where
  pub there : (end b : ℕ) (bytes more : List ℕ) → b ≢ 10 → IsWithin end bytes
      → plain_string end (b ∷ (bytes ++ end ∷ more)) ≡ Some (bytes, more)
  pub found : (end : ℕ) (text : List ℕ) → end ≢ 10 → IsFoundIn end text (plain_string end text)

-- A string that no line ends goes up to the first byte that ends it, and what follows that is left; a text without that
-- byte is the string. Each text is one of these two.
pub record PartsAreRead : Type 0 where
  pub there : (end : ℕ) (bytes more : List ℕ) → All (λ b. b ≢ end) bytes
      → part_to end (bytes ++ end ∷ more) ≡ (bytes, more)
  pub unended : (end : ℕ) (bytes : List ℕ) → All (λ b. b ≢ end) bytes → part_to end bytes ≡ (bytes, [])
