-- What each token of an image and each control word of a text leaves in the open definition (IEEE 1275-1994, 5.2.2
-- and annex A; Forth 2012, 6.1, 6.2 and 15.6.2).
use Rattle.std.specs.Prelude.{ℕ, ℤ, pos, negsuc, Bool, true, false, List, [], ◌∷◌, Option, Some, None, nat_lt}
use Rattle.std.specs.Prelude.{unwrap_or, if◌then◌else◌}
use Rattle.of_cells.specs.declared.cells.Cell.{Cell}
use Rattle.of_code.specs.Items.{first_own_xt}
use Rattle.of_control.specs.Element.{Element, Plain, Branch, Resolve, Mark, Back, Roll, Do, Loop, Leave, Case, Of}
use Rattle.of_control.specs.Element.{EndOf, EndCase, Misfit}
use Rattle.of_fcodes.specs.declared.words.StreamWord.{StreamWord}
use Rattle.of_fcodes.specs.declared.words.StreamWord.TheVariants as stream
use Rattle.of_fcodes.specs.declared.console_words.CompilingWord.{CompilingWord}
use Rattle.of_fcodes.specs.declared.console_words.CompilingWord.TheVariants as compiling
use Rattle.of_stream.specs.Targets.{target_at}
use Rattle.of_compile.specs.declared.element.PlainItem.{PlainItem}
use Rattle.of_compile.specs.declared.element.PlainItem.TheVariants.{Operation, Literal, String, Call, Store}
use Rattle.of_compile.specs.declared.tokens.CompiledOperand.{CompiledOperand}
use Rattle.of_compile.specs.declared.tokens.CompiledOperand.TheVariants as operand

-- ---- words

-- a word that is called: of a written word its operation
abbrev pub called : Cell → PlainItem
called xt = if nat_lt xt.0 first_own_xt then Operation xt else Call xt

-- ---- tokens of the stream

-- an offset goes back
abbrev pub goes_back : ℤ → Bool
goes_back (pos n) = false
goes_back (negsuc n) = true

-- A branch goes back, to a mark, or forward, to a resolve. Positions of tokens begin at 8, so no mark stands at 0:
-- that is where a branch back to before the first byte is sent.
abbrev pub branch : Bool → ℕ → ℤ → Element PlainItem
branch on_zero position by =
    if goes_back by then Back on_zero (Some (unwrap_or (target_at position by) 0))
    else Branch on_zero (target_at position by)

-- what keeps the place of an element that fits nowhere: two cells, as those of the families of `do` and `case`, that
-- are never run
abbrev pub misfit : Element PlainItem
misfit = Misfit (Literal (record { 0 = 0 }))

-- of the families of `do` and `case` only the sign of the offset counts: a loop goes back, the others forward
abbrev pub backward : ℤ → Element PlainItem → Element PlainItem
backward by e = if goes_back by then e else misfit

abbrev pub forward : ℤ → Element PlainItem → Element PlainItem
forward by e = if goes_back by then misfit else e

-- a token with a cell: the number behind `b(lit)`, the execution token that the FCode names behind the others
abbrev pub cell_element : StreamWord → Cell → Option (Element PlainItem)
cell_element stream.Literal x = Some (Plain (Literal x))
cell_element stream.Tick xt = Some (Plain (Literal xt))
cell_element stream.To xt = Some (Plain (Store xt))
cell_element _ x = None

-- a token with a string, which stands at an address of the data region
abbrev pub string_element : StreamWord → Cell → Cell → Option (Element PlainItem)
string_element stream.String a n = Some (Plain (String a n))
string_element _ a n = None

-- a token with an offset, at a position
abbrev pub offset_element : StreamWord → ℕ → ℤ → Option (Element PlainItem)
offset_element stream.Branch position by = Some (branch false position by)
offset_element stream.BranchIfZero position by = Some (branch true position by)
offset_element stream.Do position by = Some (forward by (Do false))
offset_element stream.QuestionDo position by = Some (forward by (Do true))
offset_element stream.Loop position by = Some (backward by (Loop false))
offset_element stream.PlusLoop position by = Some (backward by (Loop true))
offset_element stream.Of position by = Some (forward by Of)
offset_element stream.EndOf position by = Some (forward by EndOf)
offset_element _ position by = None

-- a token with nothing behind it, at a position
abbrev pub bare_element : StreamWord → ℕ → Option (Element PlainItem)
bare_element stream.Mark position = Some (Mark (Some position))
bare_element stream.Resolve position = Some (Resolve (Some position))
bare_element stream.Leave position = Some Leave
bare_element stream.Case position = Some Case
bare_element stream.EndCase position = Some EndCase
bare_element _ position = None

-- the table: what a token of the stream leaves, if it is one that is compiled
abbrev pub token_element : StreamWord → CompiledOperand → ℕ → Option (Element PlainItem)
token_element word operand.Nothing position = bare_element word position
token_element word (operand.Number x) position = cell_element word x
token_element word (operand.String a n) position = string_element word a n
token_element word (operand.Offset by) position = offset_element word position by

-- ---- control words of a text, which know no position and no target

abbrev pub text_elements : CompilingWord → List (Element PlainItem)
text_elements compiling.If = Branch true None ∷ []
text_elements compiling.Ahead = Branch false None ∷ []
text_elements compiling.Else = Branch false None ∷ Roll 1 ∷ Resolve None ∷ []
text_elements compiling.Then = Resolve None ∷ []
text_elements compiling.Begin = Mark None ∷ []
text_elements compiling.While = Branch true None ∷ []
text_elements compiling.Repeat = Back false None ∷ Resolve None ∷ []
text_elements compiling.Until = Back true None ∷ []
text_elements compiling.Again = Back false None ∷ []
text_elements compiling.Do = Do false ∷ []
text_elements compiling.QuestionDo = Do true ∷ []
text_elements compiling.Loop = Loop false ∷ []
text_elements compiling.PlusLoop = Loop true ∷ []
text_elements compiling.Leave = Leave ∷ []
text_elements compiling.Case = Case ∷ []
text_elements compiling.Of = Of ∷ []
text_elements compiling.EndOf = EndOf ∷ []
text_elements compiling.EndCase = EndCase ∷ []
text_elements _ = []
