-- Words between blanks, and lines.
use Rattle.std.specs.Prelude.{◌≡◌, ℕ, ◌<◌, ◌≤◌, List, [], ◌∷◌, length}
use Rattle.std.specs.List.{All}

-- one byte or more, and none of them a blank
abbrev pub IsWord : List ℕ → Type 0
IsWord word = (0 < length word) × All (λ b. 0x20 < b) word

-- bytes that separate words
abbrev pub AreBlanks : List ℕ → Type 0
AreBlanks bytes = All (λ b. b ≤ 0x20) bytes

-- a text that ends the word before it: it begins with a blank, or there is none
abbrev pub EndsWord : List ℕ → Type 0
EndsWord [] = Unit {0}
EndsWord (b ∷ text) = b ≤ 0x20

-- a text that begins with the end of a line, or has no bytes
abbrev pub EndsLine : List ℕ → Type 0
EndsLine [] = Unit {0}
EndsLine (b ∷ text) = b ≡ 10
