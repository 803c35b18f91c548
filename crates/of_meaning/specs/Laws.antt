-- The body of a definition is the body of its nest (IEEE 1275-1994, 5.3.3.2; Forth 2012, 3.2.3.2).
use Rattle.std.specs.Prelude.{ℕ, ◌≡◌, true, false, List, [], Some, Ok}
use Rattle.of_fcodes.specs.declared.words.StreamWord.TheVariants as stream
use Rattle.of_fcodes.specs.declared.words.Word.TheVariants as word
use Rattle.of_fcodes.specs.Lookup.{word_numbered}
use Rattle.of_stream.specs.Decoding.{Token}
use Rattle.of_control.specs.Reading.{body_in}
use Rattle.of_compile.specs.declared.element.PlainItem.{PlainItem}
use Rattle.of_source.specs.Items.{Source}
use Rattle.of_source.specs.Nest.{Around, Fits, Nest, Stop, Plain, Definition, Defining, If, Else, Then, Begin, Do}
use Rattle.of_source.specs.Nest.{Leave, Case, Of, nest_of, open_behind}
use Rattle.of_source.specs.Parsing.{parsed}
use Rattle.of_tok.specs.declared.place.Place.{Place}
use Rattle.of_tok.specs.Tokens.{written}
use Rattle.of_meaning.specs.Elements.{ArePlain, elements_left}
use Rattle.of_meaning.specs.Pairs.{nest_body, offset16_code}

-- in a definition, outside its loops and cases
abbrev pub in_definition : Around
in_definition = record { defines = true; loops = false; cases = false }

-- The tokens of the inside of a definition, wherever it stands, leave elements that have the body of its nest, where
-- each closer closes what it closes there by the nest alone; and no body exactly where that has none. So positions and
-- targets, by which a definition is read from its tokens, lead to the nest's own pairs.
abbrev pub HasItsBody : Nest → Type 0
HasItsBody i =
    (f : Token → Place → PlainItem) (p : Place) (to : List ℕ) (out : ℕ)
    → let es = elements_left f (written i p to out []) p [] in body_in 32 es ≡ nest_body i es

-- the inside of each definition of a nest is such
abbrev pub EachInside : (Nest → Type 0) → Nest → Type 0
EachInside P Stop = Unit {0}
EachInside P (Plain t r) = EachInside P r
EachInside P (Definition m i r) = P i × EachInside P r
EachInside P (Defining m t r) = EachInside P r
EachInside P (If l r) = EachInside P r
EachInside P (Else l r) = EachInside P r
EachInside P (Then r) = EachInside P r
EachInside P (Begin i z l r) = EachInside P i × EachInside P r
EachInside P (Do q k i l m r) = EachInside P i × EachInside P r
EachInside P (Leave r) = EachInside P r
EachInside P (Case i r) = EachInside P i × EachInside P r
EachInside P (Of k i m r) = EachInside P i × EachInside P r

pub record BodyOfNest : Type 0 where
  -- the plain token that leaves no element
  pub wider : word_numbered offset16_code ≡ Some (word.Stream stream.Offset16)
  -- any inside that closes what it opens, between d branches that are open outside
  pub inside : (i : Nest) (d : ℕ) → Fits i in_definition d d → open_behind i d ≡ d → ArePlain i → HasItsBody i
  -- so each definition of a source that is accepted
  pub accepted : (text : List ℕ) (s : Source) → parsed text ≡ Ok s → EachInside HasItsBody (nest_of s.items)
