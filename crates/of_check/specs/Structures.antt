-- Whether a definition is a nest of control structures (IEEE 1275-1994, 5.3.3.2).
use Rattle.std.specs.Prelude.{◌≡◌, ℕ, Bool, true, false, not, is_some, nat_eq, if◌then◌else◌}
use Rattle.std.specs.Prelude.{List, [], ◌∷◌, Option, Some, None}
use Rattle.of_fcodes.specs.declared.words.Word.{Word}
use Rattle.of_fcodes.specs.declared.words.Word.TheVariants as word
use Rattle.of_fcodes.specs.Lookup.{word_numbered}
use Rattle.of_stream.specs.Decoding.{Argument, Nothing, Offset}
use Rattle.of_control.specs.Element.{Element, Plain}
use Rattle.of_control.specs.Reading.{body_in}
use Rattle.of_compile.specs.declared.element.PlainItem.{PlainItem}
use Rattle.of_compile.specs.declared.tokens.CompiledOperand.TheVariants as operand
use Rattle.of_compile.specs.Tokens.{token_element}
use Rattle.of_check.specs.Tokens.{Standing}

-- how many structures are open in a definition at most
abbrev pub deepest : ℕ
deepest = 32

-- what a word of the stream with this argument leaves in the open definition, where it is a word of control
abbrev pub element_by : Argument → Option Word → ℕ → Option (Element PlainItem)
element_by Nothing (Some (word.Stream w)) position = token_element w operand.Nothing position
element_by (Offset by) (Some (word.Stream w)) position = token_element w (operand.Offset by) position
element_by _ _ position = None

-- what a token leaves
abbrev pub control_element : Standing → Option (Element PlainItem)
control_element s = element_by s.token.argument (word_numbered s.token.code.0) s.position

-- an element behind others, if there is one; lists of elements stand latest first
abbrev pub left_behind : Option (Element PlainItem) → List (Element PlainItem) → List (Element PlainItem)
left_behind None es = es
left_behind (Some e) es = e ∷ es

-- The elements that these tokens leave behind others up to `b(;)`. There are none where another `b(:)` comes first, or
-- no more token.
abbrev pub elements_behind : List (Element PlainItem) → List Standing → Option (List (Element PlainItem))
elements_behind es [] = None
elements_behind es (s ∷ ss) =
    if nat_eq s.token.code.0 0x0c2 then Some es
    else if nat_eq s.token.code.0 0x0b7 then None
    else elements_behind (left_behind (control_element s) es) ss

-- there are elements, and they have no body
abbrev pub have_no_body : Option (List (Element PlainItem)) → Bool
have_no_body None = false
have_no_body (Some es) = not (is_some (body_in deepest es))

-- the definition that these tokens are, up to `b(;)`, is no nest
abbrev pub is_unnested : List Standing → Bool
is_unnested ss = have_no_body (elements_behind [] ss)

-- whether an element is of control
abbrev pub is_control : Element PlainItem → Bool
is_control (Plain k) = false
is_control _ = true

-- those of control alone
abbrev pub control_only : List (Element PlainItem) → List (Element PlainItem)
control_only [] = []
control_only (e ∷ es) = if is_control e then e ∷ control_only es else control_only es

-- What stands between words of control does not matter: with it elements have a body exactly where they have one
-- without it.
abbrev pub PlainItemsFit : Type 0
PlainItemsFit =
    (es : List (Element PlainItem)) → is_some (body_in deepest es) ≡ is_some (body_in deepest (control_only es))
