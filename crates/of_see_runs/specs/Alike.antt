-- What `see` prints of a definition, read again as a definition, is the definition again, up to the addresses of
-- strings and with calls of itself as calls of itself (Forth 2012, 15.6.1.2194; IEEE 1275-1994, annex A, `see`).
use Rattle.std.specs.Prelude.{◌≡◌, ◌<◌, ℕ, List, [], ◌∷◌, ◌++◌, length, Some, Result}
use Rattle.of_cells.specs.declared.cells.Cell.{Cell}
use Rattle.of_stacks.specs.declared.return_item.Input.TheVariants as input
use Rattle.of_stacks.specs.declared.throws.Throw.{Throw}
use Rattle.of_fcodes.specs.declared.console_words.CompilingWord.TheVariants as compiling
use Rattle.of_memory.specs.Access.{read_bytes}
use Rattle.of_memory.specs.DataSpace.{DataSpace}
use Rattle.of_scan.specs.Words.{IsWord}
use Rattle.of_dict.specs.Words.{is_immediate_in, xt_of}
use Rattle.of_control.specs.Body.{Body, items_of}
use Rattle.of_control.specs.Element.{Element}
use Rattle.of_control.specs.Items.{DropSelector, EndArm, EnterLoop, ExitLoop, Item, JumpTo, Perform, RepeatLoop}
use Rattle.of_control.specs.Items.{TestArm}
use Rattle.of_control.specs.Law.{IsBodyIn}
use Rattle.of_control.specs.Reading.{body_in}
use Rattle.of_compile.specs.Coding.{Coding}
use Rattle.of_compile.specs.declared.element.Element.{Element as Printed}
use Rattle.of_compile.specs.declared.element.PlainItem.{PlainItem}
use Rattle.of_compile.specs.declared.element.PlainItem.TheVariants as P
use Rattle.of_compile.specs.Structured.{Definition, Definitions, flat_of, laid_all}
use Rattle.of_compile.specs.Tokens.{called}
use Rattle.of_compile.specs.Words.{own_word}
use Rattle.of_flow.specs.Texts.{latest_text}
use Rattle.of_text.specs.declared.words.TextWord.TheVariants as text
use Rattle.of_text.specs.Names.{Names, own_named}
use Rattle.of_text.specs.Reading.{text_read}
use Rattle.of_see.specs.SeeText.{bytes_or_none, definition_elements, definition_shown, name_at}
use Rattle.of_see_laws.specs.Scanning.{AreFree, AreShown, printing_names}
use Rattle.of_interpret.specs.TextActs.{names_in}
use Rattle.of_state.specs.State.{State}
use Rattle.of_see_runs.specs.Limits.{IsDoneOrFull, MayDefine, due}
use Rattle.of_see_runs.specs.Remade.{AreDone, remade_xt}

-- ---- definitions that are alike

-- a plain item of the word `self`, and that of the word `new` which stands for it
abbrev pub IsAgain : ℕ → ℕ → DataSpace → PlainItem → PlainItem → Type 0
IsAgain self new m (P.Operation xt) k = k ≡ called (remade_xt self new xt)
IsAgain self new m (P.Literal x) k = k ≡ P.Literal x
IsAgain self new m (P.String address n) k =
    (at : Cell) × (k ≡ P.String at (record { 0 = length (bytes_or_none (read_bytes m address.0 n.0)) }))
IsAgain self new m (P.Call xt) k = k ≡ called (remade_xt self new xt)
IsAgain self new m (P.Store xt) k = k ≡ P.Store xt

-- items that go to the same item, and whose plain items are related
abbrev pub IsAlike : (PlainItem → PlainItem → Type 0) → Item PlainItem → Item PlainItem → Type 0
IsAlike R (Perform k) j = (l : PlainItem) × (j ≡ Perform l) × R k l
IsAlike R (JumpTo z t) j = j ≡ JumpTo z t
IsAlike R (EnterLoop q t) j = j ≡ EnterLoop q t
IsAlike R (RepeatLoop l t) j = j ≡ RepeatLoop l t
IsAlike R (ExitLoop t) j = j ≡ ExitLoop t
IsAlike R (TestArm t) j = j ≡ TestArm t
IsAlike R (EndArm t) j = j ≡ EndArm t
IsAlike R DropSelector j = j ≡ DropSelector

-- item by item
abbrev pub AreAlike : (PlainItem → PlainItem → Type 0) → List (Item PlainItem) → List (Item PlainItem) → Type 0
AreAlike R [] [] = Unit {0}
AreAlike R (i ∷ is) (j ∷ js) = IsAlike R i j × AreAlike R is js
AreAlike R [] (j ∷ js) = ⊥
AreAlike R (i ∷ is) [] = ⊥

-- ---- where the text is read

-- each name finds what it found, and what is immediate is the same
pub record FindTheSame (n now : Names) : Type 0 where
  pub own : (name : List ℕ) → own_named now name ≡ own_named n name
  pub immediate : (xt : ℕ) → is_immediate_in (own_word now.words xt) ≡ is_immediate_in (own_word n.words xt)

-- ---- the law

-- A state that is to read this text, and in which nothing is compiled yet for a new definition; its names find what
-- they found.
pub record IsBefore (n : Names) (shown : List ℕ) (d : Definitions) (s : State Coding) : Type 0 where
  pub names : FindTheSame n (names_in s)
  pub reads : s.flow.reading.input ≡ input.Text 0
  pub text : latest_text s.flow.texts ≡ shown
  pub code : s.code ≡ flat_of d
  pub nothing : d.elements ≡ []

-- The words of a printed definition before its `;`, of which there are `count`, read and done one behind the other
-- without a throw, leave the next word open, with elements that have a body, whose items are those of the printed one.
pub record IsReadBack (n : Names) (m : DataSpace) (shown name : List ℕ) (w : Definition) (es : List Printed) (count : ℕ)
    : Type 0 where
  pub defines :
      (s t : State Coding) (d : Definitions) → IsBefore n shown d s → AreDone count s t
      → t.words.defining ≡ Some (length s.words.dictionary)
  pub compiled :
      (s t : State Coding) (d : Definitions) → IsBefore n shown d s → AreDone count s t
      → (elements : List (Element PlainItem)) × (t.code ≡ flat_of (record d { elements = elements }))
      × (b : Body PlainItem) × (body_in 32 elements ≡ Some b)
      × AreAlike (IsAgain w.xt.0 (xt_of (length s.words.dictionary)) m) (items_of w.body) (items_of b)
  -- where a definition may be begun, none of them throws but where a limit is met
  pub limits :
      (s u : State Coding) (d : Definitions) (k : ℕ) → IsBefore n shown d s → MayDefine name m es s → k < count
      → AreDone k s u → IsDoneOrFull (due u)
  -- behind them stands `;`
  pub ended :
      (s t : State Coding) (d : Definitions) → IsBefore n shown d s → AreDone count s t
      → (end next : ℕ) × (t.flow.reading.input ≡ input.Text end)
      × ((base : Result ℕ Throw) → text_read n base shown end
      ≡ record { word = text.Compiling compiling.Semicolon; next = next })

-- What is printed of a finished definition is read back as that definition, in every state in which names find what
-- they found when it was printed, as far as the limits leave room. Its body is one that some elements have, its name is
-- one word, no own word bears a name that `see` prints with, its numbers are cells, and its strings can be read.
abbrev pub SeeReadsBack : Type 0
SeeReadsBack =
    (d : Definitions) (newer older : List Definition) (w : Definition) (es : List (Element PlainItem)) (n : Names)
    (m : DataSpace) (name : List ℕ)
    → d.finished ≡ newer ++ w ∷ older → IsBodyIn 32 es w.body → name_at n.words w.xt.0 ≡ Some name → IsWord name
    → AreFree n printing_names
    → let start = length (laid_all older) in
    let printed = definition_elements (flat_of d).code start in
    AreShown m printed
    → (count : ℕ) × IsReadBack n m (definition_shown n m (flat_of d).code w.xt.0 start) name w printed count
