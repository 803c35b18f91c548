-- Which phrases can be written: what must hold of each where it stands.
use Rattle.std.specs.Prelude.{◌≡◌, ◌≢◌, ℕ, ◌≤◌, true, List, [], ◌∷◌, ◌++◌, length, codes, Option, Some}
use Rattle.std.specs.Prelude.{None, Ok}
use Rattle.std.specs.List.{All, list_all}
use Rattle.of_stream.specs.declared.stream.OffsetSize.{OffsetSize}
use Rattle.of_source.specs.declared.keyword.Quote.TheVariants as quote
use Rattle.of_source.specs.declared.keyword.Keyword.{Keyword}
use Rattle.of_source.specs.declared.keyword.Keyword.TheVariants as keyword
use Rattle.of_source.specs.declared.keyword.Lone.TheVariants as lone
use Rattle.of_source.specs.declared.nesting.Part.{Part}
use Rattle.of_source.specs.declared.nesting.Part.TheVariants as part
use Rattle.of_scan.specs.declared.numbers.Number.TheVariants.{Value}
use Rattle.of_source.specs.Keywords.{keyword_named, ordinary_named}
use Rattle.of_source.specs.Names.{Own, own_in}
use Rattle.of_scan.specs.Numbers.{number_in}
use Rattle.of_source.specs.Radix.{base_of}
use Rattle.of_source.specs.Items.{Item}
use Rattle.of_source.specs.Nest.{IsNested}
use Rattle.of_source.specs.Nesting.{is_same}
use Rattle.of_source.specs.Shapes.{Shape, nothing, run}
use Rattle.of_source.specs.Steps.{code_named}
use Rattle.of_source.specs.Parsing.{is_word, parsed}
use Rattle.of_scan.specs.Scan.{group}
use Rattle.of_scan.specs.Words.{IsWord, AreBlanks, EndsWord, EndsLine}
use Rattle.of_scan.specs.Strings.{IsWithin, ArePieces, pieces_bytes}
use Rattle.of_source.specs.Phrases.{Phrase, Spelled, Beginning, Ending, Known, begun_with, quote_if, taken, moved}
use Rattle.of_source.specs.Phrases.{behind, items_in, version_word, each_written, all_written, text_of}
use Rattle.of_source.specs.Phrases as phrase

-- a word that a definition can be named by
abbrev pub IsName : List ℕ → Type 0
IsName name = IsWord name × (length name ≤ 31)

-- what is open behind these items is such
abbrev pub LeaveOpen : List Item → (Shape → Type 0) → Type 0
LeaveOpen items P = (o : Shape) × (run items nothing ≡ Some o) × P o

-- no control structure is open
abbrev pub IsStraight : Shape → Type 0
IsStraight o = (o.count ≡ 0) × (list_all (λ (p : Part × ℕ). is_same p.0 part.Definition) o.parts ≡ true)

-- the keyword that a phrase begins with
abbrev pub keyword_of : Phrase → Option Keyword
keyword_of (phrase.OwnWord n) = None
keyword_of (phrase.BoardWord c) = None
keyword_of (phrase.Number x) = None
keyword_of (phrase.NumberIn base blanks word x) = Some (keyword.NumberIn base)
keyword_of (phrase.Character blanks b word) = Some keyword.Character
keyword_of (phrase.Text prints blank bytes) = Some (keyword.Text (quote_if prints))
keyword_of (phrase.Quoted blank pieces bytes) = Some (keyword.Text quote.Bytes)
keyword_of (phrase.Comment blank bytes) = Some keyword.Comment
keyword_of (phrase.LineComment bytes) = Some keyword.LineComment
keyword_of (phrase.Naming t blanks name c) = Some (keyword.Naming t)
keyword_of (phrase.Defining w blanks name) = Some (keyword.Defining w)
keyword_of (phrase.Alone w) = Some (keyword.Lone w)

-- the definition that a phrase is, by its number
abbrev pub own_of : Phrase → Option ℕ
own_of (phrase.OwnWord n) = Some n
own_of _ = None

-- a word is the phrase's keyword, or none where the phrase has none; a definition may have the name of a keyword
abbrev pub IsKeyword : List ℕ → Phrase → Type 0
IsKeyword word (phrase.OwnWord n) = Unit {0}
IsKeyword word p = keyword_named word ≡ keyword_of p

-- what a phrase asks of the place where it stands, and of what it takes from the text
abbrev pub IsPlaced : Known → List ℕ → Phrase → Type 0
IsPlaced k word (phrase.BoardWord c) = ordinary_named word ≡ Some c
IsPlaced k word (phrase.Number x) = (ordinary_named word ≡ None) × (number_in (base_of k.setting.radix) word ≡ Value x)
IsPlaced k word (phrase.NumberIn base blanks digits x) =
    AreBlanks blanks × IsWord digits × (number_in (base_of base) digits ≡ Value x)
IsPlaced k word (phrase.Character blanks b bytes) = AreBlanks blanks × IsWord (b ∷ bytes)
IsPlaced k word (phrase.Text prints blank bytes) = (blank ≢ 10) × (length bytes ≤ 255) × IsWithin 34 bytes
IsPlaced k word (phrase.Quoted blank pieces bytes) =
    (blank ≢ 10) × (length (pieces_bytes pieces ++ bytes) ≤ 255) × ArePieces pieces × IsWithin 34 bytes
IsPlaced k word (phrase.Comment blank bytes) = (blank ≢ 10) × IsWithin 41 bytes
IsPlaced k word (phrase.LineComment bytes) = All (λ b. b ≢ 10) bytes
IsPlaced k word (phrase.Naming t blanks name c) =
    AreBlanks blanks × IsWord name × (code_named k.setting.names name ≡ Some c)
IsPlaced k word (phrase.Defining w blanks name) = AreBlanks blanks × IsName name
IsPlaced k word (phrase.Alone lone.Recurse) = (d : Own) × (k.setting.open_one ≡ Some d)
IsPlaced k word (phrase.Alone lone.Offset16) = LeaveOpen k.items IsStraight
IsPlaced k word _ = Unit {0}

-- what a phrase asks of the text that follows it: a word that it takes ends there, a comment up to the end of the line
-- is followed by that, and a string of `"` by no group
abbrev pub IsFollowed : Phrase → List ℕ → Type 0
IsFollowed (phrase.NumberIn base blanks digits x) more = EndsWord more
IsFollowed (phrase.Character blanks b bytes) more = EndsWord more
IsFollowed (phrase.Naming t blanks name c) more = EndsWord more
IsFollowed (phrase.Defining w blanks name) more = EndsWord more
IsFollowed (phrase.LineComment bytes) more = EndsLine more
IsFollowed (phrase.Quoted blank pieces bytes) more = group more ≡ None
IsFollowed _ more = Unit {0}

-- a phrase can stand here, before this text: its word stands behind blanks or none, is spelled so and ends there, and
-- no own name hides it
pub record IsSaid (k : Known) (p : Spelled) (more : List ℕ) : Type 0 where
  pub blanks : AreBlanks p.blanks
  pub spelled : IsWord p.word
  pub ends : EndsWord (taken p.phrase ++ more)
  pub own : own_in k.setting.names p.word ≡ own_of p.phrase
  pub means : IsKeyword p.word p.phrase
  pub placed : IsPlaced k p.word p.phrase
  pub followed : IsFollowed p.phrase more

-- a comment, with its word
abbrev pub IsComment : List ℕ → Phrase → Type 0
IsComment word (phrase.Comment blank bytes) = (is_word (codes "(") word ≡ true) × (blank ≢ 10) × IsWithin 41 bytes
IsComment word (phrase.LineComment bytes) = (is_word (codes "\\") word ≡ true) × All (λ b. b ≢ 10) bytes
IsComment word _ = ⊥

-- a comment can stand before this text, where no names are known
pub record IsRemark (p : Spelled) (more : List ℕ) : Type 0 where
  pub blanks : AreBlanks p.blanks
  pub spelled : IsWord p.word
  pub ends : EndsWord (taken p.phrase ++ more)
  pub means : IsComment p.word p.phrase
  pub followed : IsFollowed p.phrase more

-- comments can stand before this text
abbrev pub AreRemarks : List Spelled → List ℕ → Type 0
AreRemarks [] more = Unit {0}
AreRemarks (p ∷ ps) more = IsRemark p (each_written ps more) × AreRemarks ps more

-- a source with offsets of this size can begin so before this text: comments, and its word in letters of either case
pub record IsBegun (z : OffsetSize) (b : Beginning) (more : List ℕ) : Type 0 where
  pub comments : AreRemarks b.comments (b.blanks ++ (b.word ++ more))
  pub blanks : AreBlanks b.blanks
  pub spelled : IsWord b.word
  pub ends : EndsWord more
  pub means : is_word (version_word z) b.word ≡ true

-- a source can end here: by its word, which no own name hides, and comments
pub record IsEnded (k : Known) (e : Ending) : Type 0 where
  pub blanks : AreBlanks e.blanks
  pub spelled : IsWord e.word
  pub ends : EndsWord (each_written e.comments e.more)
  pub own : own_in k.setting.names e.word ≡ None
  pub means : keyword_named e.word ≡ Some keyword.Finish
  pub comments : AreRemarks e.comments e.more
  pub more : AreBlanks e.more

-- each phrase can stand where it does, and the source can end behind them
abbrev pub AreSaid : List Spelled → Ending → Known → Type 0
AreSaid [] e k = IsEnded k e
AreSaid (p ∷ ps) e k = IsSaid (moved p.blanks k) p (all_written ps e)
    × AreSaid ps e (behind p.word p.phrase (moved p.blanks k))

-- phrases that are those of a nest are accepted, with the items of that nest
abbrev pub WrittenIsParsed : Type 0
WrittenIsParsed = (z : OffsetSize) (b : Beginning) (ps : List Spelled) (e : Ending)
    → IsBegun z b (all_written ps e) → AreSaid ps e (begun_with b) → IsNested (items_in b ps)
    → parsed (text_of b ps e) ≡ Ok (record { size = z; items = items_in b ps })
