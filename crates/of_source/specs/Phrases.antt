-- A source as a list of phrases: each is a word with all that it takes from the text.
use Rattle.std.specs.Prelude.{ℕ, ◌+◌, Bool, true, false, List, [], ◌∷◌, ◌++◌, length, codes}
use Rattle.of_cells.specs.declared.cells.Cell.{Cell}
use Rattle.of_fcodes.specs.declared.codes.FCode.{FCode}
use Rattle.of_stream.specs.declared.stream.OffsetSize.{OffsetSize}
use Rattle.of_stream.specs.declared.stream.OffsetSize.TheVariants as size
use Rattle.of_source.specs.declared.keyword.Definer.{Definer}
use Rattle.of_source.specs.declared.keyword.Lone.{Lone}
use Rattle.of_source.specs.declared.keyword.Quote.{Quote}
use Rattle.of_source.specs.declared.keyword.Quote.TheVariants as quote
use Rattle.of_source.specs.declared.keyword.Radix.{Radix}
use Rattle.of_source.specs.Effects.{effect_of, making_of, Setting, first_setting, made, next_own}
use Rattle.of_source.specs.Items.{Item, Made, own_code, call, string, naming, bare}
use Rattle.of_source.specs.Items as item
use Rattle.of_source.specs.Steps.{number_items, string_items}
use Rattle.of_scan.specs.Strings.{Piece, pieces_written, pieces_bytes}

-- a word with all that it takes from the text
pub data Phrase : Type 0 where
  OwnWord : ℕ → Phrase  -- the definition of this number
  BoardWord : FCode → Phrase
  Number : Cell → Phrase  -- in the radix in force
  NumberIn : Radix → List ℕ → List ℕ → Cell → Phrase  -- `h#` or `d#`, blanks and a number
  Character : List ℕ → ℕ → List ℕ → Phrase  -- `char` or `[char]`, blanks and a word, of which the first byte counts
  Text : Bool → ℕ → List ℕ → Phrase  -- `s"`, or `."`, which prints; a blank and bytes up to the quote
  Quoted : ℕ → List Piece → List ℕ → Phrase  -- `"`, a blank, pieces and bytes up to the quote
  Comment : ℕ → List ℕ → Phrase  -- `(`, a blank and bytes up to `)`
  LineComment : List ℕ → Phrase  -- `\` and bytes up to the end of the line
  Naming : FCode → List ℕ → List ℕ → FCode → Phrase  -- `'`, `[']` or `to`, blanks and a name of this FCode
  Defining : Definer → List ℕ → List ℕ → Phrase  -- a defining word, blanks and a name
  Alone : Lone → Phrase  -- a keyword that takes nothing, as `true`, `hex`, `if` or `;`

-- a phrase with its word as it is spelled, in letters of either case, and with the blanks and line ends before that
pub record Spelled : Type 0 where
  pub blanks : List ℕ
  pub word : List ℕ
  pub phrase : Phrase

-- comments, and the word that begins a source behind its blanks
pub record Beginning : Type 0 where
  pub comments : List Spelled
  pub blanks : List ℕ
  pub word : List ℕ

-- the word that ends a source behind its blanks; comments, and the blanks behind them
pub record Ending : Type 0 where
  pub blanks : List ℕ
  pub word : List ℕ
  pub comments : List Spelled
  pub more : List ℕ

-- ---- as text

-- what a phrase takes from the text behind its word
abbrev pub taken : Phrase → List ℕ
taken (NumberIn base blanks word x) = blanks ++ word
taken (Character blanks b word) = blanks ++ b ∷ word
taken (Text prints blank bytes) = blank ∷ bytes ++ 34 ∷ []
taken (Quoted blank pieces bytes) = blank ∷ pieces_written pieces (bytes ++ 34 ∷ [])
taken (Comment blank bytes) = blank ∷ bytes ++ 41 ∷ []
taken (LineComment bytes) = bytes
taken (Naming t blanks name c) = blanks ++ name
taken (Defining w blanks name) = blanks ++ name
taken _ = []

-- a phrase behind its blanks, and then this text
abbrev pub written : Spelled → List ℕ → List ℕ
written p more = p.blanks ++ (p.word ++ (taken p.phrase ++ more))

-- phrases, and then this text
abbrev pub each_written : List Spelled → List ℕ → List ℕ
each_written [] more = more
each_written (p ∷ ps) more = written p (each_written ps more)

-- the end of a source
abbrev pub end_written : Ending → List ℕ
end_written e = e.blanks ++ (e.word ++ each_written e.comments e.more)

-- phrases, and the end of the source
abbrev pub all_written : List Spelled → Ending → List ℕ
all_written ps e = each_written ps (end_written e)

-- the word that begins a source
abbrev pub version_word : OffsetSize → List ℕ
version_word size.One = codes "fcode-version1"
version_word size.Two = codes "fcode-version2"

-- phrases as the text of a source
abbrev pub text_of : Beginning → List Spelled → Ending → List ℕ
text_of b ps e = each_written b.comments (b.blanks ++ (b.word ++ all_written ps e))

-- ---- as items

-- what is known at a phrase
pub record Known : Type 0 where
  pub at : ℕ  -- the place of its word
  pub setting : Setting
  pub items : List Item  -- the items before it

-- at this place nothing is known yet
abbrev pub nothing_known : ℕ → Known
nothing_known at = record { at = at; setting = first_setting; items = [] }

-- `."` or `s"`
abbrev pub quote_if : Bool → Quote
quote_if true = quote.Printed
quote_if false = quote.Plain

-- the items of a phrase
abbrev pub items_of : Phrase → Known → List Item
items_of (OwnWord n) k = item.Plain (call (own_code n)) ∷ []
items_of (BoardWord c) k = item.Plain (call c) ∷ []
items_of (Number x) k = number_items x
items_of (NumberIn base blanks word x) k = number_items x
items_of (Character blanks b word) k = number_items (record { 0 = b })
items_of (Text prints blank bytes) k = string_items (quote_if prints) bytes
items_of (Quoted blank pieces bytes) k = item.Plain (string (pieces_bytes pieces ++ bytes)) ∷ []
items_of (Comment blank bytes) k = []
items_of (LineComment bytes) k = []
items_of (Naming t blanks name c) k = item.Plain (naming t c) ∷ []
items_of (Defining w blanks name) k = (making_of w).gives (made name k.setting) ∷ []
items_of (Alone w) k = (effect_of w).gives k.at k.setting.open_one

-- what else is known behind a phrase
abbrev pub learned : Phrase → Known → Known
learned (Alone w) k = record k { setting = (effect_of w).changes k.setting }
learned (Defining w blanks name) k = record k { setting = (making_of w).changes (next_own name k.setting) k.setting }
learned _ k = k

-- what is known behind a phrase whose word is this
abbrev pub behind : List ℕ → Phrase → Known → Known
behind word p k = record (learned p k) {
  at = k.at + length word + length (taken p);
  items = k.items ++ items_of p k;
}

-- at the word behind these blanks
abbrev pub moved : List ℕ → Known → Known
moved blanks k = record k { at = k.at + length blanks }

-- what is known behind phrases
abbrev pub all_behind : List Spelled → Known → Known
all_behind [] k = k
all_behind (p ∷ ps) k = all_behind ps (behind p.word p.phrase (moved p.blanks k))

-- the place behind these phrases
abbrev pub place_behind : List Spelled → ℕ → ℕ
place_behind [] at = at
place_behind (p ∷ ps) at =
    place_behind ps (at + length p.blanks + length p.word + length (taken p.phrase))

-- what is known behind the word that begins a source
abbrev pub begun_with : Beginning → Known
begun_with b = nothing_known (place_behind b.comments 0 + length b.blanks + length b.word)

-- the items of a source of these phrases
abbrev pub items_in : Beginning → List Spelled → List Item
items_in b ps = (all_behind ps (begun_with b)).items
