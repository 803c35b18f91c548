-- Which fault a text has: that of its first word that can't stand where it does.
use Rattle.std.specs.Prelude.{◌≡◌, ◌≢◌, ℕ, ◌+◌, ◌<◌, Bool, true, false, not, ◌||◌, List, [], ◌∷◌, ◌++◌, length, codes}
use Rattle.std.specs.Prelude.{Option}
use Rattle.std.specs.Prelude.{Some, None, Err, option_and_then}
use Rattle.of_cells.specs.declared.cells.Cell.{Cell}
use Rattle.of_fcodes.specs.declared.codes.FCode.{FCode}
use Rattle.of_stream.specs.declared.stream.OffsetSize.{OffsetSize}
use Rattle.of_source.specs.declared.fault.SourceFault.{SourceFault}
use Rattle.of_source.specs.declared.fault.SourceFault.TheVariants.{Unclosed, Unknown, BadNumber, TooLong}
use Rattle.of_source.specs.declared.keyword.Keyword.{Keyword}
use Rattle.of_source.specs.declared.keyword.Keyword.TheVariants as keyword
use Rattle.of_source.specs.declared.keyword.Definer.{Definer}
use Rattle.of_source.specs.declared.keyword.Lone.{Lone}
use Rattle.of_source.specs.declared.keyword.Lone.TheVariants as lone
use Rattle.of_source.specs.declared.keyword.Quote.{Quote}
use Rattle.of_source.specs.declared.keyword.Radix.{Radix}
use Rattle.of_scan.specs.declared.numbers.Number.TheVariants.{Value, OutOfRange, NoNumber}
use Rattle.of_source.specs.Keywords.{keyword_named, ordinary_named}
use Rattle.of_source.specs.Names.{own_in}
use Rattle.of_scan.specs.Numbers.{number_in}
use Rattle.of_source.specs.Radix.{base_of}
use Rattle.of_source.specs.Nesting.{Nesting, nothing_open, opened_if, in_definition, is_straight, is_closed}
use Rattle.of_source.specs.Nesting.{first_open}
use Rattle.of_source.specs.Effects.{effect_of, making_of}
use Rattle.of_scan.specs.Scan.{Rest, rest_at, Found, plain_string}
use Rattle.of_source.specs.Places.{last_place}
use Rattle.of_source.specs.Steps.{code_named, string_found}
use Rattle.of_source.specs.Parsing.{is_word, misplaced, parsed}
use Rattle.of_source.specs.Phrases.{Phrase, Spelled, Beginning, Known, each_written, moved, behind, all_behind}
use Rattle.of_source.specs.Phrases.{place_behind, begun_with}
use Rattle.of_source.specs.Phrases as phrase
use Rattle.of_scan.specs.Words.{IsWord, AreBlanks, EndsWord}
use Rattle.of_source.specs.Written.{IsSaid, AreRemarks, IsBegun}

-- ---- what is open

-- what is open behind a phrase at this place; none where a closer, `of` or `leave` has nothing to close or stand in,
-- and where a definition would begin in another
abbrev pub opened : Phrase → ℕ → Nesting → Option Nesting
opened (phrase.Defining w blanks name) at n = opened_if (not (in_definition n.parts)) ((making_of w).opens at n)
opened (phrase.Alone w) at n = (effect_of w).opens at n
opened _ at n = Some n

-- what is open behind phrases
abbrev pub all_opened : List Spelled → Known → Nesting → Option Nesting
all_opened [] k n = Some n
all_opened (p ∷ ps) k n =
    option_and_then (all_opened ps (behind p.word p.phrase (moved p.blanks k)))
    (opened p.phrase (moved p.blanks k).at n)

-- ---- one word

-- a text begins with blanks or none and a word, which ends there
pub record HasWord (all : List ℕ) : Type 0 where
  pub blanks : List ℕ
  pub word : List ℕ
  pub more : List ℕ
  pub text : all ≡ blanks ++ (word ++ more)
  pub between : AreBlanks blanks
  pub spelled : IsWord word
  pub ends : EndsWord more

-- a keyword that takes a word which may be any
abbrev pub TakesWord : Keyword → Type 0
TakesWord keyword.Character = Unit {0}
TakesWord (keyword.Naming t) = Unit {0}
TakesWord _ = ⊥

-- the string or comment behind a keyword, if it takes one; none of it where its end isn't on the line
abbrev pub string_behind : Keyword → List ℕ → Option Found
string_behind keyword.Comment text = Some (plain_string 41 text)
string_behind (keyword.Text q) text = Some (string_found q text)
string_behind _ text = None

-- a word that is no own name can't stand where this is known and open and this follows it, for this fault; the last
-- byte of the text is at `last`
pub data IsWrong (last : ℕ) (k : Known) (n : Nesting) (word : List ℕ) (r : Rest) : SourceFault → Type 0 where
  -- a closer, `of` or `leave` with nothing to close or to stand in
  no_opener : (w : Lone) → keyword_named word ≡ Some (keyword.Lone w) → opened (phrase.Alone w) k.at n ≡ None
      → IsWrong last k n word r (Unclosed k.at)
  -- `fcode-end`, where something is open
  left_open : keyword_named word ≡ Some keyword.Finish → is_closed n ≡ false
      → IsWrong last k n word r (Unclosed (first_open 0 n))
  -- the text ends where a word must follow
  no_word : (key : Keyword) → keyword_named word ≡ Some key → TakesWord key → AreBlanks r.text
      → IsWrong last k n word r (Unclosed (first_open last n))
  no_name : (w : Definer) → keyword_named word ≡ Some (keyword.Defining w) → in_definition n.parts ≡ false
      → AreBlanks r.text → IsWrong last k n word r (Unclosed (first_open last ((making_of w).opens k.at n)))
  -- `h#` or `d#` without a number that a cell holds
  no_digits : (base : Radix) → keyword_named word ≡ Some (keyword.NumberIn base) → AreBlanks r.text
      → IsWrong last k n word r (BadNumber k.at)
  bad_digits : (base : Radix) (w : HasWord r.text) → keyword_named word ≡ Some (keyword.NumberIn base)
      → ((x : Cell) → number_in (base_of base) w.word ≢ Value x) → IsWrong last k n word r (BadNumber k.at)
  -- a name of more than 31 bytes, a string of more than 255
  long_name : (d : Definer) (w : HasWord r.text) → keyword_named word ≡ Some (keyword.Defining d)
      → in_definition n.parts ≡ false → 31 < length w.word
      → IsWrong last k n word r (TooLong (r.at + length w.blanks))
  long_string : (q : Quote) (bytes text : List ℕ) → keyword_named word ≡ Some (keyword.Text q)
      → string_found q r.text ≡ Some (bytes, text) → 255 < length bytes
      → IsWrong last k n word r (TooLong k.at)
  -- a string or comment whose end isn't on its line
  no_end : (key : Keyword) → keyword_named word ≡ Some key → string_behind key r.text ≡ Some None
      → IsWrong last k n word r (Unknown k.at)
  -- behind `'`, `[']` or `to` a word that stands for no FCode
  no_code : (t : FCode) (w : HasWord r.text) → keyword_named word ≡ Some (keyword.Naming t)
      → code_named k.setting.names w.word ≡ None → IsWrong last k n word r (Unknown (r.at + length w.blanks))
  -- a defining word in a definition, `recurse` outside all, `offset16` in a control structure
  not_outside : (w : Definer) → keyword_named word ≡ Some (keyword.Defining w) → in_definition n.parts ≡ true
      → IsWrong last k n word r (Unknown k.at)
  not_inside : keyword_named word ≡ Some (keyword.Lone lone.Recurse) → k.setting.open_one ≡ None
      → IsWrong last k n word r (Unknown k.at)
  not_straight : keyword_named word ≡ Some (keyword.Lone lone.Offset16) → is_straight n ≡ false
      → IsWrong last k n word r (Unknown k.at)
  -- digits that no cell holds, and a word that is nothing
  out_of_range : keyword_named word ≡ None → ordinary_named word ≡ None
      → number_in (base_of k.setting.radix) word ≡ OutOfRange → IsWrong last k n word r (BadNumber k.at)
  no_meaning : keyword_named word ≡ None → ordinary_named word ≡ None
      → number_in (base_of k.setting.radix) word ≡ NoNumber → IsWrong last k n word r (Unknown k.at)

-- ---- outside the words of a source

-- beyond comments stands a comment whose end isn't on its line, or another word than is meant there
pub data IsAstray (radix : ℕ) (meant : List ℕ → Bool) (r : Rest) : SourceFault → Type 0 where
  open_comment : (cs : List Spelled) (text : List ℕ) (w : HasWord text) → r.text ≡ each_written cs text
      → AreRemarks cs text → is_word (codes "(") w.word ≡ true → plain_string 41 w.more ≡ None
      → IsAstray radix meant r (Unknown (place_behind cs r.at + length w.blanks))
  another : (cs : List Spelled) (text : List ℕ) (w : HasWord text) → r.text ≡ each_written cs text → AreRemarks cs text
      → is_word (codes "(") w.word ≡ false → is_word (codes "\\") w.word ≡ false → meant w.word ≡ false
      → IsAstray radix meant r (misplaced (place_behind cs r.at + length w.blanks) radix w.word)

-- ---- a whole text

-- what follows phrases is the fault, where this is known and open behind them
pub data IsFailure (last : ℕ) (k : Known) (n : Nesting) (text : List ℕ) : SourceFault → Type 0 where
  -- the text ends
  cut : AreBlanks text → IsFailure last k n text (Unclosed (first_open last n))
  -- a word can't stand there
  wrong : (f : SourceFault) (w : HasWord text) → own_in k.setting.names w.word ≡ None
      → IsWrong last (moved w.blanks k) n w.word (rest_at (k.at + length w.blanks + length w.word) w.more) f
      → IsFailure last k n text f
  -- `fcode-end` ends the source, and behind it stand more than comments
  late : (f : SourceFault) (w : HasWord text) → own_in k.setting.names w.word ≡ None
      → keyword_named w.word ≡ Some keyword.Finish → is_closed n ≡ true
      → IsAstray (base_of k.setting.radix) (λ word. false) (rest_at (k.at + length w.blanks + length w.word) w.more) f
      → IsFailure last k n text f

-- each of these phrases can stand where it does, before this text
abbrev pub AllSaid : List Spelled → List ℕ → Known → Type 0
AllSaid [] text k = Unit {0}
AllSaid (p ∷ ps) text k = IsSaid (moved p.blanks k) p (each_written ps text)
    × AllSaid ps text (behind p.word p.phrase (moved p.blanks k))

-- words that begin a source
abbrev pub begins_source : List ℕ → Bool
begins_source word = is_word (codes "fcode-version2") word || is_word (codes "fcode-version1") word

-- a text has this fault: it begins no source, or phrases fit one behind the other and what follows them doesn't
pub data IsFault (text : List ℕ) : SourceFault → Type 0 where
  -- there are comments alone
  no_source : (cs : List Spelled) (more : List ℕ) → text ≡ each_written cs more → AreRemarks cs more → AreBlanks more
      → IsFault text (Unclosed (last_place text))
  -- the first word begins no source
  no_beginning : (f : SourceFault) → IsAstray 16 begins_source (rest_at 0 text) f → IsFault text f
  -- phrases fit, and what follows them doesn't
  failure : (f : SourceFault) (z : OffsetSize) (b : Beginning) (ps : List Spelled) (n : Nesting) (more : List ℕ)
      → text ≡ each_written b.comments (b.blanks ++ (b.word ++ each_written ps more))
      → IsBegun z b (each_written ps more) → AllSaid ps more (begun_with b)
      → all_opened ps (begun_with b) nothing_open ≡ Some n
      → IsFailure (last_place text) (all_behind ps (begun_with b)) n more f → IsFault text f

-- a text is refused for a fault just where it has it
pub record FaultsAreThese : Type 0 where
  pub refused : (text : List ℕ) (f : SourceFault) → parsed text ≡ Err f → IsFault text f
  pub faulty : (text : List ℕ) (f : SourceFault) → IsFault text f → parsed text ≡ Err f
