-- What the definitions of an image are, said of the tokens that it is made of, and not of how it is read
-- (IEEE 1275-1994, 5.2.2 and annex A, `b(:)`, `b(;)`, `b(create)`).
use Rattle.std.specs.Prelude.{◌≡◌, ◌⊎◌, ℕ, List, [], ◌∷◌, ◌++◌, ◌+◌, ◌≤◌, length, map, Option, Some, None, false, true}
use Rattle.std.specs.Prelude.{nat_eq, if◌then◌else◌}
use Rattle.std.specs.List.{AllByRecursion}
use Rattle.of_fcodes.specs.declared.words.StreamWord.{StreamWord}
use Rattle.of_fcodes.specs.declared.words.StreamWord.TheVariants as stream
use Rattle.of_fcodes.specs.declared.words.Word.TheVariants.{Stream}
use Rattle.of_fcodes.specs.Lookup.{word_numbered}
use Rattle.of_stream.specs.declared.fault.StreamFault.{StreamFault}
use Rattle.of_stream.specs.declared.fault.StreamFault.TheVariants.{Ended}
use Rattle.of_stream.specs.declared.stream.OffsetSize.{OffsetSize}
use Rattle.of_stream.specs.Bytes.{IsEncodable, token_bytes}
use Rattle.of_stream.specs.Decoding.{Nothing, Token, decoded}
use Rattle.of_stream.specs.Image.{first_size, header_fault, header_length}
use Rattle.of_stream.specs.Sizes.{is_end, size_behind}
use Rattle.of_detok.specs.Definitions.{definitions_of}

-- ---- the tokens

-- a number is one of these
abbrev pub IsOneOf : ℕ → List ℕ → Type 0
IsOneOf n [] = ⊥
IsOneOf n (m ∷ ms) = (n ≡ m) ⊎ IsOneOf n ms

-- the tokens that say the next word's number and name, and that of wider offsets
abbrev pub saying_codes : List ℕ
saying_codes = 0x0b5 ∷ 0x0b6 ∷ 0x0ca ∷ 0x0cc ∷ []

abbrev pub saying_words : List StreamWord
saying_words = stream.NewToken ∷ stream.NamedToken ∷ stream.ExternalToken ∷ stream.Offset16 ∷ []

-- the defining tokens other than `b(:)`
abbrev pub making_codes : List ℕ
making_codes = 0x0b8 ∷ 0x0b9 ∷ 0x0ba ∷ 0x0bb ∷ 0x0bc ∷ 0x0bd ∷ 0x0be ∷ []

abbrev pub making_words : List StreamWord
making_words =
    stream.Value ∷ stream.Variable ∷ stream.Constant ∷ stream.Create ∷ stream.Defer ∷ stream.Buffer ∷ stream.Field
    ∷ []

-- a token without operands
abbrev pub bare : ℕ → Token
bare n = record { code = record { 0 = n }; argument = Nothing }

abbrev pub colon : Token
colon = bare 0x0b7

abbrev pub semicolon : Token
semicolon = bare 0x0c2

abbrev pub create : Token
create = bare 0x0bb

-- the words that these numbers name
abbrev pub AreNamed : List ℕ → List StreamWord → Type 0
AreNamed codes words = map word_numbered codes ≡ map (λ w. Some (Stream w)) words

-- ---- an image

-- an image has such parts one behind another
pub data Part : Type 0 where
  -- `b(:)`, these tokens, and `b(;)`
  Definition : List Token → Part
  -- one of the tokens that say something of what follows
  Saying : Token → Part
  -- one of the defining tokens other than `b(:)`
  Making : ℕ → Part
  -- a token that is none of these and no `b(:)`
  Other : Token → Part

-- a token that doesn't end the definition in which it stands
abbrev pub StaysIn : Token → Type 0
StaysIn t = t.code.0 ≡ 0x0c2 → ⊥

abbrev pub IsPart : Part → Type 0
IsPart (Definition ts) = AllByRecursion StaysIn ts
IsPart (Saying t) = IsOneOf t.code.0 saying_codes
IsPart (Making n) = IsOneOf n making_codes
IsPart (Other t) = IsOneOf t.code.0 (0x0b7 ∷ saying_codes ++ making_codes) → ⊥

-- the tokens of parts, and others behind them
abbrev pub tokens_in : List Part → List Token → List Token
tokens_in [] more = more
tokens_in (Definition ts ∷ parts) more = colon ∷ (ts ++ semicolon ∷ tokens_in parts more)
tokens_in (Saying t ∷ parts) more = t ∷ tokens_in parts more
tokens_in (Making n ∷ parts) more = bare n ∷ tokens_in parts more
tokens_in (Other t ∷ parts) more = t ∷ tokens_in parts more

-- `external-token` for `named-token`, and any other token as it is
abbrev pub external_code : ℕ → ℕ
external_code n = if nat_eq n 0x0b6 then 0x0ca else n

abbrev pub as_external : Token → Token
as_external t = record { code = record { 0 = external_code t.code.0 }; argument = t.argument }

-- those of them that make words, with `b(create)` for each other maker, and the others behind them
abbrev pub words_in : List Part → List Token → List Token
words_in [] more = more
words_in (Definition ts ∷ parts) more = colon ∷ (ts ++ semicolon ∷ words_in parts more)
words_in (Saying t ∷ parts) more = as_external t ∷ words_in parts more
words_in (Making n ∷ parts) more = create ∷ words_in parts more
words_in (Other t ∷ parts) more = words_in parts more

-- the tokens of a definition that isn't ended, if there is one
abbrev pub opened_tokens : Option (List Token) → List Token
opened_tokens None = []
opened_tokens (Some ts) = colon ∷ ts

abbrev pub IsOpened : Option (List Token) → Type 0
IsOpened None = Unit {0}
IsOpened (Some ts) = AllByRecursion StaysIn ts

-- an image up to its end token, or up to what can't be read
pub record Image : Type 0 where
  pub header : List ℕ
  pub parts : List Part
  pub opened : Option (List Token)

abbrev pub all_tokens : Image → List Token
all_tokens i = tokens_in i.parts (opened_tokens i.opened)

abbrev pub word_tokens : Image → List Token
word_tokens i = words_in i.parts (opened_tokens i.opened)

-- ---- its bytes

-- the bytes of tokens one behind another, where offsets have this size at first
abbrev pub tokens_bytes : OffsetSize → List Token → List ℕ
tokens_bytes size [] = []
tokens_bytes size (t ∷ ts) = token_bytes size t ++ tokens_bytes (size_behind t.code.0 size) ts

-- the size of the offsets behind them
abbrev pub size_after : OffsetSize → List Token → OffsetSize
size_after size [] = size
size_after size (t ∷ ts) = size_after (size_behind t.code.0 size) ts

-- each has bytes, and none ends an image
abbrev pub AreTokens : OffsetSize → List Token → Type 0
AreTokens size [] = Unit {0}
AreTokens size (t ∷ ts) = IsEncodable size t × (is_end t.code.0 ≡ false) × AreTokens (size_behind t.code.0 size) ts

-- a header, and tokens behind it
abbrev pub laid : List ℕ → List Token → List ℕ
laid header ts = header ++ tokens_bytes (first_size header) ts

pub record IsImage (i : Image) : Type 0 where
  pub whole_header : length i.header ≡ header_length
  pub good_header : header_fault i.header ≡ None
  pub parts : AllByRecursion IsPart i.parts
  pub opened : IsOpened i.opened
  pub tokens : AreTokens (first_size i.header) (all_tokens i)

-- ---- the law

-- Each definition stands in the result as in the image, and of all else what says or makes a word, with its name as an
-- external one; all of it behind the same header and before `end0`.
pub record TakesDefinitions : Type 0 where
  -- what the numbers above name
  pub saying : AreNamed saying_codes saying_words
  pub making : AreNamed making_codes making_words
  pub others :
      AreNamed (0x0b7 ∷ 0x0c2 ∷ 0x0bb ∷ 0x000 ∷ [])
      (stream.Colon ∷ stream.Semicolon ∷ stream.Create ∷ stream.End0 ∷ [])
  -- an image that ends
  pub ends :
      (i : Image) (end : ℕ) (more : List ℕ) → IsImage i → is_end end ≡ true
      → definitions_of (laid i.header (all_tokens i) ++ end ∷ more)
      ≡ (laid i.header (word_tokens i) ++ 0x00 ∷ [], None)
  -- an image that can't be read on
  pub stops :
      (i : Image) (rest : List ℕ) → IsImage i
      → decoded (size_after (first_size i.header) (all_tokens i)) rest ≡ None
      → definitions_of (laid i.header (all_tokens i) ++ rest)
      ≡ (laid i.header (word_tokens i) ++ 0x00 ∷ [], Some (Ended (length (laid i.header (all_tokens i)))))
  -- a header that can't be read
  pub headless :
      (image : List ℕ) (f : StreamFault) → header_fault image ≡ Some f → definitions_of image ≡ ([], Some f)
  -- at most a byte more is taken than there is
  pub short : (image : List ℕ) → length (definitions_of image).0 ≤ length image + 1
