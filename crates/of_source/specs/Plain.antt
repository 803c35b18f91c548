-- Which tokens stand by themselves in a source, between its control structures and definitions (IEEE 1275-1994, 5.3.1
-- and 5.3.3).
use Rattle.std.specs.Prelude.{◌≡◌, ℕ, ◌||◌, ◌&&◌, ◌⊎◌, Bool, true, List, [], ◌∷◌, ◌++◌, nat_eq, nat_le, Ok}
use Rattle.of_fcodes.specs.Lookup.{word_numbered}
use Rattle.of_stream.specs.Decoding.{Argument, Token, Nothing, Literal, String, Code, Named, Offset}
use Rattle.of_source.specs.Items.{Item, Source, Plain, Colon, Defining, Semicolon, If, Else, Then, Begin, Back, Do}
use Rattle.of_source.specs.Items.{Loop, Leave, Case, Of, EndOf, EndCase}
use Rattle.of_source.specs.Keywords.{is_ordinary}
use Rattle.of_source.specs.Parsing.{parsed}
use Rattle.of_source.specs.Written.{IsStraight, LeaveOpen}

-- `b(value)` to `b(field)`, which say what a definition is
abbrev pub is_kind : ℕ → Bool
is_kind code = nat_le 0x0b8 code && nat_le code 0x0be

-- the FCode of an own definition or of an ordinary word, or `offset16`
abbrev pub is_plain_code : ℕ → Bool
is_plain_code code = nat_le 0x800 code || (is_ordinary (word_numbered code) || nat_eq code 0x0cc)

-- Such an FCode alone; `b(lit)` with a number; `b(")` with a string; `b(')` or `b(to)` with an FCode. So it has no
-- offset, gives no definition its number, says of none what it is, and is none of `b(:)`, `b(;)`, `b(leave)`,
-- `b(case)`, `b(endcase)`, `b(<mark)`, `b(>resolve)`, `end0` and `end1`.
abbrev pub IsPlainWith : Argument → ℕ → Type 0
IsPlainWith Nothing code = is_plain_code code ≡ true
IsPlainWith (Literal x) code = code ≡ 0x010
IsPlainWith (String s) code = code ≡ 0x012
IsPlainWith (Code c) code = (code ≡ 0x011) ⊎ (code ≡ 0x0c3)
IsPlainWith (Named s c) code = ⊥
IsPlainWith (Offset by) code = ⊥

abbrev pub IsPlain : Token → Type 0
IsPlain t = IsPlainWith t.argument t.code.0

-- Behind some items, each token that stands by itself is plain, another defining word than `:` says what its definition
-- is, and `offset16` stands where what is before it leaves no control structure open: so the size of offsets is the
-- same whichever way control goes.
abbrev pub ArePlain : List Item → List Item → Type 0
ArePlain front [] = Unit {0}
ArePlain front (Plain t ∷ is) =
    IsPlain t × (t.code.0 ≡ 0x0cc → LeaveOpen front IsStraight) × ArePlain (front ++ Plain t ∷ []) is
ArePlain front (Colon m ∷ is) = ArePlain (front ++ Colon m ∷ []) is
ArePlain front (Defining m t ∷ is) = (is_kind t.0 ≡ true) × ArePlain (front ++ Defining m t ∷ []) is
ArePlain front (Semicolon ∷ is) = ArePlain (front ++ Semicolon ∷ []) is
ArePlain front (If l ∷ is) = ArePlain (front ++ If l ∷ []) is
ArePlain front (Else l ∷ is) = ArePlain (front ++ Else l ∷ []) is
ArePlain front (Then ∷ is) = ArePlain (front ++ Then ∷ []) is
ArePlain front (Begin ∷ is) = ArePlain (front ++ Begin ∷ []) is
ArePlain front (Back z l ∷ is) = ArePlain (front ++ Back z l ∷ []) is
ArePlain front (Do q l ∷ is) = ArePlain (front ++ Do q l ∷ []) is
ArePlain front (Loop q l ∷ is) = ArePlain (front ++ Loop q l ∷ []) is
ArePlain front (Leave ∷ is) = ArePlain (front ++ Leave ∷ []) is
ArePlain front (Case ∷ is) = ArePlain (front ++ Case ∷ []) is
ArePlain front (Of l ∷ is) = ArePlain (front ++ Of l ∷ []) is
ArePlain front (EndOf l ∷ is) = ArePlain (front ++ EndOf l ∷ []) is
ArePlain front (EndCase ∷ is) = ArePlain (front ++ EndCase ∷ []) is

-- so it is with the items of an accepted source
abbrev pub AcceptedIsPlain : Type 0
AcceptedIsPlain = (text : List ℕ) (s : Source) → parsed text ≡ Ok s → ArePlain [] s.items
