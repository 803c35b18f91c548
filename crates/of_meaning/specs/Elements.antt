-- The elements that the tokens of a definition leave (IEEE 1275-1994, 5.3.3.2; Forth 2012, 6.1).
use Rattle.std.specs.Prelude.{ℕ, ◌≡◌, if◌then◌else◌, List, [], ◌∷◌, Option, Some, None}
use Rattle.of_fcodes.specs.declared.words.Word.{Word}
use Rattle.of_fcodes.specs.declared.words.Word.TheVariants as word
use Rattle.of_fcodes.specs.Lookup.{word_numbered}
use Rattle.of_stream.specs.Decoding.{Argument, Nothing, Offset, Token}
use Rattle.of_control.specs.Element.{Element}
use Rattle.of_control.specs.Element as element
use Rattle.of_compile.specs.declared.element.PlainItem.{PlainItem}
use Rattle.of_compile.specs.declared.tokens.CompiledOperand.TheVariants as operand
use Rattle.of_compile.specs.Tokens.{token_element}
use Rattle.of_source.specs.Nest.{Nest, Stop, Plain, Definition, Defining, If, Else, Then, Begin, Do, Leave, Case, Of}
use Rattle.of_tok.specs.declared.place.Place.{Place}
use Rattle.of_tok.specs.Places.{behind}
use Rattle.of_tok.specs.Tokens.{Written, token_of}
use Rattle.of_meaning.specs.Pairs.{leaves_one}

-- the element of a word of the stream, where its token has nothing behind it or an offset, as those of control have
abbrev pub element_by : Argument → Option Word → ℕ → Option (Element PlainItem)
element_by Nothing (Some (word.Stream w)) position = token_element w operand.Nothing position
element_by (Offset by) (Some (word.Stream w)) position = token_element w (operand.Offset by) position
element_by _ _ position = None

-- the element of a token at a position, where it is one of control
abbrev pub control_element : Token → ℕ → Option (Element PlainItem)
control_element t position = element_by t.argument (word_numbered t.code.0) position

-- the elements behind a token: any other leaves the item that it has there, or none
abbrev pub left_behind :
    Option (Element PlainItem) → (Token → Place → PlainItem) → Token → Place → List (Element PlainItem)
    → List (Element PlainItem)
left_behind (Some e) f t p es = e ∷ es
left_behind None f t p es = if leaves_one t then element.Plain (f t p) ∷ es else es

-- the elements behind these tokens, which stand from a place on one behind the other, the latest first
abbrev pub elements_left :
    (Token → Place → PlainItem) → List Written → Place → List (Element PlainItem) → List (Element PlainItem)
elements_left f [] p es = es
elements_left f (w ∷ ws) p es =
    let t = token_of w in
    elements_left f ws (behind t p) (left_behind (control_element t p.position) f t p es)

-- no plain token of a nest is one of control
abbrev pub ArePlain : Nest → Type 0
ArePlain Stop = Unit {0}
ArePlain (Plain t r) = ((position : ℕ) → control_element t position ≡ None) × ArePlain r
ArePlain (Definition m i r) = ArePlain i × ArePlain r
ArePlain (Defining m t r) = ArePlain r
ArePlain (If l r) = ArePlain r
ArePlain (Else l r) = ArePlain r
ArePlain (Then r) = ArePlain r
ArePlain (Begin i z l r) = ArePlain i × ArePlain r
ArePlain (Do q k i l m r) = ArePlain i × ArePlain r
ArePlain (Leave r) = ArePlain r
ArePlain (Case i r) = ArePlain i × ArePlain r
ArePlain (Of k i m r) = ArePlain i × ArePlain r
