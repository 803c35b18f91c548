-- The words of a source that are no names of tokens (IEEE 1275-1994, 5.3 and annex C).
use Rattle.std.specs.Prelude.{ℕ, Bool, true, false, List, [], ◌∷◌, codes, Option, Some, None, if◌then◌else◌}
use Rattle.std.specs.Borrow.{Bor}
use Rattle.std.specs.Str.{str_eq_ignore_ascii_case}
use Rattle.of_fcodes.specs.declared.codes.FCode.{FCode}
use Rattle.of_fcodes.specs.declared.words.Word.{Word}
use Rattle.of_fcodes.specs.declared.words.Word.TheVariants as word
use Rattle.of_fcodes.specs.Lookup.{number_named, word_numbered}
use Rattle.of_source.specs.declared.keyword.Maker.TheVariants.{Named, External, Unnamed}
use Rattle.of_source.specs.declared.keyword.Radix.TheVariants.{Hexadecimal, Decimal}
use Rattle.of_source.specs.declared.keyword.Quote.TheVariants.{Bytes, Plain, Printed}
use Rattle.of_source.specs.declared.keyword.Keyword.{Keyword}
use Rattle.of_source.specs.declared.keyword.Keyword.TheVariants.{Finish, Comment, LineComment, NumberIn, Character}
use Rattle.of_source.specs.declared.keyword.Keyword.TheVariants.{Text, Defining, Naming, Lone}
use Rattle.of_source.specs.declared.keyword.Definer.TheVariants as definer
use Rattle.of_source.specs.declared.keyword.Lone.TheVariants as lone

-- an FCode by its number
abbrev pub fcode : ℕ → FCode
fcode n = record { 0 = n }

-- a word and what it does
abbrev pub Row : Type 0
Row = List ℕ × Keyword

-- one of them
abbrev pub row : List ℕ → Keyword → Row
row name k = (name, k)

-- words of texts, names and numbers
unfoldable pub text_rows : List Row
text_rows =
    row (codes "fcode-end") Finish ∷
    row (codes "(") Comment ∷
    row (codes "\\") LineComment ∷
    row (codes "headers") (Lone (lone.Headers Named)) ∷
    row (codes "external") (Lone (lone.Headers External)) ∷
    row (codes "headerless") (Lone (lone.Headers Unnamed)) ∷
    row (codes "hex") (Lone (lone.Radix Hexadecimal)) ∷
    row (codes "decimal") (Lone (lone.Radix Decimal)) ∷
    row (codes "h#") (NumberIn Hexadecimal) ∷
    row (codes "d#") (NumberIn Decimal) ∷
    row (codes "char") Character ∷
    row (codes "[char]") Character ∷
    row (codes "\"") (Text Bytes) ∷
    row (codes "s\"") (Text Plain) ∷
    row (codes ".\"") (Text Printed) ∷
    row (codes ":") (Defining definer.Colon) ∷
    row (codes ";") (Lone lone.Semicolon) ∷
    row (codes "value") (Defining (definer.Other (fcode 0x0b8))) ∷
    row (codes "variable") (Defining (definer.Other (fcode 0x0b9))) ∷
    row (codes "constant") (Defining (definer.Other (fcode 0x0ba))) ∷
    row (codes "create") (Defining (definer.Other (fcode 0x0bb))) ∷
    row (codes "defer") (Defining (definer.Other (fcode 0x0bc))) ∷
    row (codes "buffer:") (Defining (definer.Other (fcode 0x0bd))) ∷
    row (codes "field") (Defining (definer.Other (fcode 0x0be))) ∷
    row (codes "recurse") (Lone lone.Recurse) ∷
    row (codes "'") (Naming (fcode 0x011)) ∷
    row (codes "[']") (Naming (fcode 0x011)) ∷
    row (codes "to") (Naming (fcode 0x0c3)) ∷
    row (codes "offset16") (Lone lone.Offset16) ∷
    []

-- words that stand for tokens, and control structures
unfoldable pub control_rows : List Row
control_rows =
    row (codes "1+") (Lone (lone.Two (fcode 0x0a6) (fcode 0x01e))) ∷
    row (codes "1-") (Lone (lone.Two (fcode 0x0a6) (fcode 0x01f))) ∷
    row (codes "2+") (Lone (lone.Two (fcode 0x0a7) (fcode 0x01e))) ∷
    row (codes "2-") (Lone (lone.Two (fcode 0x0a7) (fcode 0x01f))) ∷
    row (codes "true") (Lone (lone.One (fcode 0x0a4))) ∷
    row (codes "false") (Lone (lone.One (fcode 0x0a5))) ∷
    row (codes "struct") (Lone (lone.One (fcode 0x0a5))) ∷
    row (codes "space") (Lone (lone.Two (fcode 0x0a9) (fcode 0x08f))) ∷
    row (codes "erase") (Lone (lone.Two (fcode 0x0a5) (fcode 0x079))) ∷
    row (codes "<<") (Lone (lone.One (fcode 0x027))) ∷
    row (codes ">>") (Lone (lone.One (fcode 0x028))) ∷
    row (codes "not") (Lone (lone.One (fcode 0x026))) ∷
    row (codes "if") (Lone lone.If) ∷
    row (codes "while") (Lone lone.If) ∷
    row (codes "else") (Lone lone.Else) ∷
    row (codes "then") (Lone lone.Then) ∷
    row (codes "begin") (Lone lone.Begin) ∷
    row (codes "until") (Lone (lone.Back true)) ∷
    row (codes "again") (Lone (lone.Back false)) ∷
    row (codes "repeat") (Lone lone.Repeat) ∷
    row (codes "?do") (Lone (lone.Do true)) ∷
    row (codes "do") (Lone (lone.Do false)) ∷
    row (codes "+loop") (Lone (lone.Loop true)) ∷
    row (codes "loop") (Lone (lone.Loop false)) ∷
    row (codes "leave") (Lone lone.Leave) ∷
    row (codes "case") (Lone lone.Case) ∷
    row (codes "of") (Lone lone.Of) ∷
    row (codes "endof") (Lone lone.EndOf) ∷
    row (codes "endcase") (Lone lone.EndCase) ∷
    []

-- the keyword of a name among these rows, whatever the case of its letters
abbrev pub keyword_in : List Row → List ℕ → Option Keyword
keyword_in [] name = None
keyword_in (r ∷ rows) name = if str_eq_ignore_ascii_case r.0 name then Some r.1 else keyword_in rows name

-- the first of two
abbrev pub or_in : Option Keyword → Option Keyword → Option Keyword
or_in (Some k) other = Some k
or_in None other = other

-- the keyword of this name, whatever the case of its letters
unfoldable pub keyword_named : List ℕ → Option Keyword
keyword_named name = or_in (keyword_in text_rows name) (keyword_in control_rows name)

-- a row as it stands in the tables of the code
abbrev pub row_shown : (Bor (List ℕ) × Keyword) → Row
row_shown r = (r.0.now, r.1)

-- tokens that act on the image have names that no source uses
abbrev pub is_ordinary : Option Word → Bool
is_ordinary None = false
is_ordinary (Some (word.Stream w)) = false
is_ordinary (Some _) = true

-- an FCode, if its word is an ordinary one
abbrev pub if_ordinary : Option ℕ → Option FCode
if_ordinary None = None
if_ordinary (Some n) = if is_ordinary (word_numbered n) then Some (fcode n) else None

-- the FCode of an ordinary word
unfoldable pub ordinary_named : List ℕ → Option FCode
ordinary_named name = if_ordinary (number_named name)
