-- Which sources have tokens that can be written (IEEE 1275-1994, 5.2.2).
use Rattle.std.specs.Prelude.{◌≡◌, ℕ, ◌+◌, ◌<◌, ◌≤◌, Bool, List, [], ◌∷◌, Option, Some, None, is_some, if◌then◌else◌}
use Rattle.std.specs.List.{All}
use Rattle.of_stream.specs.declared.stream.OffsetSize.TheVariants.{One, Two}
use Rattle.of_stream.specs.Bytes.{IsEncodable}
use Rattle.of_stream.specs.Decoding.{Argument, Code, Token}
use Rattle.of_fcodes.specs.declared.codes.FCode.{FCode}
use Rattle.of_source.specs.Items.{Item, Made, Plain, Colon, Defining, call, maker_token}
use Rattle.of_source.specs.Nest.{IsNested}

-- the definition that an item makes, if it makes one
abbrev pub made_by : Item → Option Made
made_by (Colon m) = Some m
made_by (Defining m t) = Some m
made_by _ = None

abbrev pub defines : Item → Bool
defines i = is_some (made_by i)

-- how many definitions there are
abbrev pub definitions : List Item → ℕ
definitions [] = 0
definitions (i ∷ is) = (if defines i then 1 else 0) + definitions is

-- the definition that is made, if one is, has this number
abbrev pub IsNumbered : ℕ → Option Made → Type 0
IsNumbered n None = Unit {0}
IsNumbered n (Some m) = m.number ≡ n

-- an FCode is one of the board's, or that of one of the first n definitions
abbrev pub IsAmong : ℕ → FCode → Type 0
IsAmong n c = c.0 < 0x800 + n

-- so is what a token names
abbrev pub NamesAmong : ℕ → Argument → Type 0
NamesAmong n (Code c) = IsAmong n c
NamesAmong n _ = Unit {0}

-- a token by itself calls and names no other definitions than the first n
abbrev pub UsesAmong : ℕ → Item → Type 0
UsesAmong n (Plain t) = IsAmong n t.code × NamesAmong n t.argument
UsesAmong n _ = Unit {0}

-- behind n definitions, those that are made have the numbers n, n + 1, n + 2, .. in their order, and each that is
-- called or named was made before, or is the one around that
abbrev pub AreMadeInOrder : ℕ → List Item → Type 0
AreMadeInOrder n [] = Unit {0}
AreMadeInOrder n (i ∷ is) =
    IsNumbered n (made_by i) × UsesAmong n i × AreMadeInOrder (n + (if defines i then 1 else 0)) is

-- so many definitions have FCodes, 0x800 to 0xFFF
abbrev pub most_definitions : ℕ
most_definitions = 2048

-- a token has bytes, whatever the size of offsets
abbrev pub HasTokenBytes : Token → Type 0
HasTokenBytes t = IsEncodable One t × IsEncodable Two t

-- the tokens of an item that carry no offset have bytes
abbrev pub HasBytes : Item → Type 0
HasBytes (Plain t) = HasTokenBytes t
HasBytes (Colon m) = HasTokenBytes (maker_token m)
HasBytes (Defining m t) = HasTokenBytes (maker_token m) × HasTokenBytes (call t)
HasBytes _ = Unit {0}

-- each token has bytes, where there are FCodes for all definitions
abbrev pub AreEncodable : List Item → Type 0
AreEncodable items = definitions items ≤ most_definitions → All HasBytes items

-- what holds of the items of each source: they are those of a whole nest, its definitions have the numbers 0, 1, 2, ..
-- and are made before they are used, and the tokens can be written
pub record IsSound (items : List Item) : Type 0 where
  pub nested : IsNested items
  pub in_order : AreMadeInOrder 0 items
  pub encodable : AreEncodable items
