-- What a whole text of source words says: its words one after the other, between comments.
use Rattle.std.specs.Prelude.{◌≡◌, ℕ, zero, suc, Bool, false, List, length}
use Rattle.std.specs.Prelude.{codes, Option, Some, None, is_none, Result, Ok, Err, if◌then◌else◌}
use Rattle.std.specs.Str.{str_eq_ignore_ascii_case}
use Rattle.of_stream.specs.declared.stream.OffsetSize.{OffsetSize}
use Rattle.of_stream.specs.declared.stream.OffsetSize.TheVariants as size
use Rattle.of_source.specs.declared.fault.SourceFault.{SourceFault}
use Rattle.of_source.specs.declared.fault.SourceFault.TheVariants.{Unclosed, Unknown, BadNumber, TooLong, NoMemory}
use Rattle.of_source.specs.declared.keyword.Keyword.{Keyword}
use Rattle.of_source.specs.declared.keyword.Keyword.TheVariants as keyword
use Rattle.of_source.specs.Radix.{base_of}
use Rattle.of_source.specs.declared.source.Beyond.{Beyond as HeldBeyond}
use Rattle.of_source.specs.declared.source.Beyond.TheVariants as held
use Rattle.of_scan.specs.Scan.{Rest, rest_at, left_of, start_of, next_word, Found, plain_string, line_end}
use Rattle.of_source.specs.Places.{last_place}
use Rattle.of_scan.specs.declared.numbers.Number.{Number}
use Rattle.of_scan.specs.declared.numbers.Number.TheVariants.{Value, OutOfRange, NoNumber}
use Rattle.of_scan.specs.Numbers.{number_in}
use Rattle.of_source.specs.Keywords.{keyword_named}
use Rattle.of_source.specs.Items.{Source}
use Rattle.of_source.specs.Nesting.{nothing_open}
use Rattle.of_source.specs.Effects.{effect_of}
use Rattle.of_source.specs.Steps.{State, Step, Goes, Ends, Fails, beginning, ended, next_step}

-- a word where none of its kind can stand
abbrev pub misplaced_number : ℕ → Number → SourceFault
misplaced_number at (Value x) = Unknown at
misplaced_number at OutOfRange = BadNumber at
misplaced_number at NoNumber = Unknown at

-- with nothing open a closer has nothing to close, nor has `of` or `leave` anything to stand in
abbrev pub is_closer : Keyword → Bool
is_closer (keyword.Lone w) = is_none ((effect_of w).opens 0 nothing_open)
is_closer _ = false

-- a closer is unclosed, another keyword what it says as a number
abbrev pub misplaced_keyword : ℕ → ℕ → List ℕ → Option Keyword → SourceFault
misplaced_keyword at radix word (Some k) =
    if is_closer k then Unclosed at else misplaced_number at (number_in radix word)
misplaced_keyword at radix word None = misplaced_number at (number_in radix word)

-- what a word gives that stands where none of its kind can
abbrev pub misplaced : ℕ → ℕ → List ℕ → SourceFault
misplaced at radix word = misplaced_keyword at radix word (keyword_named word)

-- a word with its place and what follows it; none at the end
pub data Beyond : Type 0 where
  Word : ℕ → List ℕ → Rest → Beyond
  Nothing : Beyond
  Bad : ℕ → Beyond  -- the place of a comment without its end on its line

-- as the code holds it
abbrev pub beyond_shown : HeldBeyond → Beyond
beyond_shown (held.Word w r) = Word w.at w.bytes.now r
beyond_shown held.Nothing = Nothing
beyond_shown (held.Bad at) = Bad at

-- whether a word is this name, whatever the case of its letters
abbrev pub is_word : List ℕ → List ℕ → Bool
is_word name word = str_eq_ignore_ascii_case name word

-- on behind a comment at this place, where its end is on its line
abbrev pub skipped_comment : ℕ → Rest → Found → (Rest → Beyond) → Beyond
skipped_comment at r None next = Bad at
skipped_comment at r (Some f) next = next (left_of r f.1)

-- on behind a word that begins a comment
abbrev pub beyond_word : ℕ → Option (List ℕ × Rest) → (Rest → Beyond) → Beyond
beyond_word at None next = Nothing
beyond_word at (Some w) next =
    if is_word (codes "(") w.0 then skipped_comment at w.1 (plain_string 41 w.1.text) next else
    if is_word (codes "\\") w.0 then next (left_of w.1 (line_end w.1.text)) else
    Word at w.0 w.1

-- past at most n comments
abbrev pub beyond : ℕ → Rest → Beyond
beyond zero r = Nothing
beyond (suc n) r = beyond_word (start_of r) (next_word r) (beyond n)

-- behind the end of the source stand comments alone
abbrev pub trailed : OffsetSize → State → Beyond → Result Source SourceFault
trailed z s Nothing = Ok (record { size = z; items = s.items })
trailed z s (Bad at) = Err (Unknown at)
trailed z s (Word at w r) = Err (misplaced at (base_of s.setting.radix) w)

-- what a word's step makes of the whole text
abbrev pub stepped : List ℕ → OffsetSize → Step → (State → Result Source SourceFault) → Result Source SourceFault
stepped text z (Goes s) next = next s
stepped text z (Ends s) next = trailed z s (beyond (length text) s.rest)
stepped text z (Fails f) next = Err f

-- the words of a source, at most n
abbrev pub words : List ℕ → OffsetSize → ℕ → State → Result Source SourceFault
words text z zero s = Err (ended (last_place text) s)
words text z (suc n) s = stepped text z (next_step (last_place text) s) (words text z n)

-- a text whose comments at the beginning were passed
abbrev pub begun : List ℕ → Beyond → Result Source SourceFault
begun text Nothing = Err (Unclosed (last_place text))
begun text (Bad at) = Err (Unknown at)
begun text (Word at w r) =
    if is_word (codes "fcode-version2") w then words text size.Two (length text) (beginning r) else
    if is_word (codes "fcode-version1") w then words text size.One (length text) (beginning r) else
    Err (misplaced at 16 w)

-- the source that a text says, or the fault of its first word that fits nowhere; a word has a byte at least, so there
-- are no more than bytes
unfoldable pub parsed : List ℕ → Result Source SourceFault
parsed text = begun text (beyond (length text) (rest_at 0 text))

-- a text was refused for this fault, or for want of memory
abbrev pub IsRefused : {A : Type 0} → Result A SourceFault → SourceFault → Type 0
IsRefused r NoMemory = Unit {0}
IsRefused r (Unclosed at) = r ≡ Err (Unclosed at)
IsRefused r (Unknown at) = r ≡ Err (Unknown at)
IsRefused r (BadNumber at) = r ≡ Err (BadNumber at)
IsRefused r (TooLong at) = r ≡ Err (TooLong at)
