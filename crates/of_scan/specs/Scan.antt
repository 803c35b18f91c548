-- The words and strings of a text, and where they stand: a place is how many bytes of the text stand before it.
use Rattle.std.specs.Prelude.{ℕ, zero, suc, ◌+◌, ◌-◌, ◌*◌, List, [], ◌∷◌, ◌++◌, length, take, drop, take_while, Bool}
use Rattle.std.specs.Prelude.{not}
use Rattle.std.specs.Prelude.{Option, Some, None, nat_eq, nat_le, if◌then◌else◌}
use Rattle.std.specs.Borrow.{Bor}
use Rattle.of_format.specs.Digits.{digit_value}

-- what is left of a text, and the place at which it begins
pub record Rest : Type 0 where
  pub at : ℕ
  pub text : List ℕ

-- a text that begins at this place
abbrev pub rest_at : ℕ → List ℕ → Rest
rest_at at text = record { at = at; text = text }

-- what is left where these bytes are: as many bytes on as were read
abbrev pub left_of : Rest → List ℕ → Rest
left_of r text = rest_at (r.at + (length r.text - length text)) text

-- bytes up to 0x20 separate words
abbrev pub is_blank : ℕ → Bool
is_blank b = nat_le b 0x20

-- from the first byte on that is no blank
abbrev pub at_word : ℕ → List ℕ → Rest
at_word at [] = rest_at at []
at_word at (b ∷ text) = if is_blank b then at_word (at + 1) text else rest_at at (b ∷ text)

-- the place at which the next word begins
abbrev pub start_of : Rest → ℕ
start_of r = (at_word r.at r.text).at

-- how many bytes the word has that a text begins with
abbrev pub word_length : List ℕ → ℕ
word_length text = length (take_while (λ b. not (is_blank b)) text)

-- the word that a text begins with, if it does with one, and what follows that
abbrev pub word_at : Rest → Option (List ℕ × Rest)
word_at r = if nat_eq (word_length r.text) 0 then None
    else Some (take (word_length r.text) r.text, rest_at (r.at + word_length r.text) (drop (word_length r.text) r.text))

-- the next word, and what follows it; none at the end
abbrev pub next_word : Rest → Option (List ℕ × Rest)
next_word r = word_at (at_word r.at r.text)

-- ---- strings

-- a reading gives bytes, and the text behind them; none where what ends them isn't on the line
abbrev pub Found : Type 0
Found = Option (List ℕ × List ℕ)

-- as the code holds them
abbrev pub bytes_found : (Bor (List ℕ) × Bor (List ℕ)) → List ℕ × List ℕ
bytes_found r = (r.0.now, r.1.now)

-- a byte before those that were found
abbrev pub byte_before : ℕ → Found → Found
byte_before b None = None
byte_before b (Some r) = Some (b ∷ r.0, r.1)

-- the bytes up to this one, on the line that the text begins with
abbrev pub up_to : ℕ → List ℕ → Found
up_to end [] = None
up_to end (b ∷ text) = if nat_eq b end then Some ([], text) else if nat_eq b 10 then None
    else byte_before b (up_to end text)

-- the byte that separates a word from its string is no part of it
abbrev pub behind_blank : List ℕ → List ℕ
behind_blank [] = []
behind_blank (b ∷ text) = if nat_eq b 10 then b ∷ text else text

-- the byte that two hexadecimal digits say
abbrev pub byte_of : Option ℕ → Option ℕ → Option ℕ
byte_of (Some high) (Some low) = Some (high * 16 + low)
byte_of _ _ = None

-- a byte, if there is one, before those that were found
abbrev pub before_found : Option ℕ → Found → Found
before_found (Some b) found = byte_before b found
before_found None found = None

-- the bytes that pairs of digits say, with blanks between pairs or none, up to `)`
abbrev pub pairs : List ℕ → Found
pairs [] = None
pairs (a ∷ []) = if nat_eq a 41 then Some ([], []) else None
pairs (a ∷ b ∷ text) =
    if nat_eq a 41 then Some ([], b ∷ text) else
    if nat_eq a 10 then None else
    if is_blank a then pairs (b ∷ text) else
    before_found (byte_of (digit_value 16 a) (digit_value 16 b)) (pairs text)

-- `(`, pairs of digits and `)`
abbrev pub group : List ℕ → Found
group [] = None
group (b ∷ text) = if nat_eq b 40 then pairs text else None

-- bytes before those that were found
abbrev pub bytes_before : List ℕ → Found → Found
bytes_before bytes None = None
bytes_before bytes (Some r) = Some (bytes ++ r.0, r.1)

-- bytes that end before this text, or are followed by a group and by what that is followed by
abbrev pub grouped : List ℕ → List ℕ → Found → (List ℕ → Found) → Found
grouped bytes text None next = Some (bytes, text)
grouped bytes text (Some g) next = bytes_before (bytes ++ g.0) (next g.1)

-- bytes that were found, with the group that may follow them
abbrev pub and_grouped : Found → (List ℕ → Found) → Found
and_grouped None next = None
and_grouped (Some r) next = grouped r.0 r.1 (group r.1) next

-- the bytes up to a quote that no group follows, with at most n groups
abbrev pub quoted : ℕ → List ℕ → Found
quoted zero text = None
quoted (suc n) text = and_grouped (up_to 34 text) (quoted n)

-- the string behind the word `"`; each group has a byte at least, so there are no more than bytes
abbrev pub quoted_string : List ℕ → Found
quoted_string text = quoted (length text) (behind_blank text)

-- the string behind another word, up to this byte
abbrev pub plain_string : ℕ → List ℕ → Found
plain_string end text = up_to end (behind_blank text)

-- from the end of the line on
abbrev pub line_end : List ℕ → List ℕ
line_end [] = []
line_end (b ∷ text) = if nat_eq b 10 then b ∷ text else line_end text
