-- What a machine comes to that reads the words of what `see` prints, step by step (Forth 2012, 3.4, 15.6.1.2194;
-- IEEE 1275-1994, 7.3 and annex A, `see`).
use Rattle.std.specs.Prelude.{◌≡◌, ◌⊎◌, ℕ, zero, suc, ◌==◌, true, false, if◌then◌else◌, List, [], ◌∷◌, length}
use Rattle.std.specs.Prelude.{Some, None, Ok}
use Rattle.of_cells.specs.declared.cells.Cell.{Cell}
use Rattle.of_stacks.specs.declared.return_item.Input.{Input}
use Rattle.of_stacks.specs.declared.return_item.Input.TheVariants as input
use Rattle.of_memory.specs.Access.{read_bytes}
use Rattle.of_memory.specs.DataSpace.{DataSpace}
use Rattle.of_memory.specs.Growth.{appended, with_state}
use Rattle.of_dict.specs.Words.{xt_of}
use Rattle.of_control.specs.Element.{Back, Branch, Case, Do, Element, EndCase, EndOf, Leave, Loop, Mark, Of, Plain}
use Rattle.of_control.specs.Element.{Resolve, Roll}
use Rattle.of_compile.specs.Coding.{Coding, compiling}
use Rattle.of_compile.specs.declared.element.Element.{Element as Printed}
use Rattle.of_compile.specs.declared.element.Element.TheVariants as E
use Rattle.of_compile.specs.declared.element.PlainItem.{PlainItem}
use Rattle.of_compile.specs.declared.element.PlainItem.TheVariants as P
use Rattle.of_compile.specs.Tokens.{called}
use Rattle.of_flow.specs.Texts.{latest_text}
use Rattle.of_text.specs.declared.words.TextWord.{TextWord}
use Rattle.of_see.specs.SeeText.{bytes_or_none}
use Rattle.of_see_laws.specs.Scanning.{AreRead, CompileAll}
use Rattle.of_eval.specs.Defining.{string_element}
use Rattle.of_interpret.specs.Reading.{text_due}
use Rattle.of_interpret.specs.Strings.{bytes_put}
use Rattle.of_interpret.specs.TextActs.{names_in}
use Rattle.of_state.specs.State.{State, done, flat_calls}

-- ---- steps

-- the position at which something is read
abbrev pub position_in : Input → ℕ
position_in (input.Image size at) = at
position_in (input.Text at) = at
position_in input.Nothing = 0

-- so many words of the latest text are read and done, one behind the other, and none of them throws or asks
abbrev pub AreDone : ℕ → State Coding → State Coding → Type 0
AreDone zero s t = s ≡ t
AreDone (suc n) s t =
    (next : State Coding) × (text_due flat_calls (position_in s.flow.reading.input) s ≡ done next) × AreDone n next t

-- ---- what is compiled of a printed element

-- the word that is called: where the printed word called itself, the one that is being made
abbrev pub remade_xt : ℕ → ℕ → Cell → Cell
remade_xt self new xt = if xt.0 == self then record { 0 = new } else xt

-- an item, where a string comes to stand at an address
abbrev pub remade_plain : ℕ → ℕ → DataSpace → ℕ → PlainItem → Element PlainItem
remade_plain self new m here (P.Operation xt) = Plain (called (remade_xt self new xt))
remade_plain self new m here (P.Literal x) = Plain (P.Literal x)
remade_plain self new m here (P.String address n) =
    string_element here (length (bytes_or_none (read_bytes m address.0 n.0)))
remade_plain self new m here (P.Call xt) = Plain (called (remade_xt self new xt))
remade_plain self new m here (P.Store xt) = Plain (P.Store xt)

-- An element that was printed of the word `self`, while the data space was m, as it is compiled again in the word
-- `new`.
abbrev pub remade : ℕ → ℕ → DataSpace → ℕ → Printed → Element PlainItem
remade self new m here (E.Plain k) = remade_plain self new m here k
remade self new m here (E.Branch z t) = Branch z None
remade self new m here (E.Resolve p) = Resolve None
remade self new m here (E.Mark p) = Mark None
remade self new m here (E.Back z t) = Back z None
remade self new m here (E.Roll k) = Roll k
remade self new m here (E.Do q) = Do q
remade self new m here (E.Loop l) = Loop l
remade self new m here E.Leave = Leave
remade self new m here E.Case = Case
remade self new m here E.Of = Of
remade self new m here E.EndOf = EndOf
remade self new m here E.EndCase = EndCase
remade self new m here (E.Misfit k) = remade_plain self new m here k

-- the data space keeps its bytes, but for the cell `state`, which is written where words are interpreted in between
abbrev pub IsKept : DataSpace → DataSpace → Type 0
IsKept m new = (new ≡ m) ⊎ (new ≡ with_state (with_state m false) true)

-- a string is copied to `here`; of no other item does the data space get anything
abbrev pub HasPlain : DataSpace → PlainItem → DataSpace → DataSpace → Type 0
HasPlain m (P.Operation xt) old new = IsKept old new
HasPlain m (P.Literal x) old new = IsKept old new
HasPlain m (P.String address n) old new =
    bytes_put (appended old (bytes_or_none (read_bytes m address.0 n.0))) ≡ Ok new
HasPlain m (P.Call xt) old new = IsKept old new
HasPlain m (P.Store xt) old new = IsKept old new

abbrev pub Has : DataSpace → Printed → DataSpace → DataSpace → Type 0
Has m (E.Plain k) old new = HasPlain m k old new
Has m (E.Branch z t) old new = IsKept old new
Has m (E.Resolve p) old new = IsKept old new
Has m (E.Mark p) old new = IsKept old new
Has m (E.Back z t) old new = IsKept old new
Has m (E.Roll k) old new = IsKept old new
Has m (E.Do q) old new = IsKept old new
Has m (E.Loop l) old new = IsKept old new
Has m E.Leave old new = IsKept old new
Has m E.Case old new = IsKept old new
Has m E.Of old new = IsKept old new
Has m E.EndOf old new = IsKept old new
Has m E.EndCase old new = IsKept old new
Has m (E.Misfit k) old new = HasPlain m k old new

-- another state with the code, the data space and the position of this one
abbrev pub left_as : State Coding → State Coding → State Coding
left_as t s = record s {
  code = t.code;
  board = record s.board { memory = t.board.memory };
  flow = record s.flow { reading = record s.flow.reading { input = t.flow.reading.input } };
}

-- a printed element is compiled again, and nothing else changes
pub record IsRemade (self new : ℕ) (m : DataSpace) (e : Printed) (s t : State Coding) : Type 0 where
  pub element :
      compiling (remade self new m s.board.memory.here e) s.code ≡ record { coding = t.code; ended = Ok tt }
  pub memory : Has m e s.board.memory t.board.memory
  pub kept : t ≡ left_as t s

-- all of them, one behind the other
abbrev pub AreRemade : ℕ → ℕ → DataSpace → List Printed → State Coding → State Coding → Type 0
AreRemade self new m [] s t = s ≡ t
AreRemade self new m (e ∷ es) s t =
    (next : State Coding) × IsRemade self new m e s next × AreRemade self new m es next t

-- ---- the law

-- A machine that compiles a definition, and reads in a text words that compile printed elements, comes to have compiled
-- these elements again, if none of the words throws: to the address of a string, and with the word that is made in the
-- place of the printed one where that called itself.
abbrev pub PrintedWordsAreRemade : Type 0
PrintedWordsAreRemade =
    (s t : State Coding) (k at end self : ℕ) (m : DataSpace) (shown : List ℕ) (es : List Printed)
    (ws : List TextWord)
    → s.words.defining ≡ Some k → s.flow.is_compiling ≡ true → s.flow.reading.input ≡ input.Text at
    → latest_text s.flow.texts ≡ shown → AreRead (names_in s) shown at ws end → CompileAll shown m self es ws
    → AreDone (length ws) s t
    → AreRemade self (xt_of k) m es s t × (t.flow.reading.input ≡ input.Text end)
