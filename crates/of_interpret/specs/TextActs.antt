-- What a word of a text comes to: what words and tokens come to, and what texts alone have (Forth 2012, 3.4).
use Rattle.std.specs.Prelude.{ℕ, Bool, true, false, ◌||◌, List, [], ◌∷◌, Some, Result, is_none}
use Rattle.of_cells.specs.declared.cells.Cell.{Cell}
use Rattle.of_control.specs.Element.{Element}
use Rattle.of_nodes.specs.declared.phandles.Phandle.{Phandle}
use Rattle.of_asking.specs.declared.halt.Halt.{Halt}
use Rattle.of_stacks.specs.declared.stop.Stop.{Stop}
use Rattle.of_compile.specs.Coding.{Coding}
use Rattle.of_compile.specs.declared.defining.DefiningWord.{DefiningWord}
use Rattle.of_compile.specs.declared.element.PlainItem.{PlainItem}
use Rattle.of_compile.specs.Words.{WordsState}
use Rattle.of_eval.specs.Acts.{Act, Prints}
use Rattle.of_eval.specs.Naming.{naming_done}
use Rattle.of_eval.specs.Doing.{act_grows, acted, appended, element_grows, worked}
use Rattle.of_see.specs.SeeText.{see_text}
use Rattle.of_text.specs.Names.{Names as WordNames}
use Rattle.of_interpret.specs.Strings.{all_appended, said, spelt}
use Rattle.of_state.specs.State.{Calls, Ends, Halts, Outcome, State, done, flat_calls, with_compiling}

pub data TextAct : Type 0 where
  -- what a word or a token comes to
  Acts : Act → TextAct
  -- these elements are appended to the open definition, one after another; then this data stack is left
  AppendsAll : List (Element PlainItem) → List Cell → TextAct
  -- a word of this name is made
  Names : DefiningWord → List ℕ → TextAct
  -- a string is put into the scratch region, and its address and length are left
  Says : List ℕ → TextAct
  -- a string is copied to `here`, and its element appended, and these behind it
  Spells : List ℕ → List (Element PlainItem) → TextAct
  -- words are interpreted from now on
  Interprets : TextAct
  -- a node is the active package from now on
  Selects : Phandle → TextAct
  -- what the word of an execution token does is printed
  Sees : Cell → TextAct

-- where names are looked up
abbrev pub names_in : {S : Type 0} → State S → WordNames
names_in s = record { nodes = s.board.tree; home = s.board.active.«package»; words = s.words.dictionary }

-- what `see` prints of the word of an execution token
abbrev pub seen : {S : Type 0} → Calls S → Cell → State S → List ℕ
seen c xt s = see_text (names_in s) s.board.memory (c.cells s.code) xt

-- a node is the active package
abbrev pub selected : {S : Type 0} → Phandle → State S → State S
selected node s =
    record s { board = record s.board { active = record s.board.active { «package» = Some node } } }

unfoldable pub text_acted : {S : Type 0} → Calls S → TextAct → State S → Outcome S
text_acted c (Acts a) s = acted c a s
text_acted c (AppendsAll es cells) s = appended (all_appended c es s.code) cells s
text_acted c (Names d name) s = naming_done c d name s
text_acted c (Says bytes) s = said bytes s
text_acted c (Spells bytes es) s = spelt c bytes es s
text_acted c Interprets s = done (with_compiling false s)
text_acted c (Selects node) s = done (selected node s)
text_acted c (Sees xt) s = worked c (Prints (seen c xt s)) s

-- whether one of these elements needs memory
abbrev pub any_grows : List (Element PlainItem) → Bool
any_grows [] = false
any_grows (e ∷ es) = element_grows e || any_grows es

-- whether something grows by an act: only then may no memory be found
abbrev pub text_grows : TextAct → WordsState → Bool
text_grows (Acts a) w = act_grows a w
text_grows (AppendsAll es cells) w = any_grows es
text_grows (Names d name) w = is_none w.defining
text_grows (Says bytes) w = false
text_grows (Spells bytes es) w = true
text_grows Interprets w = false
text_grows (Selects node) w = false
text_grows (Sees xt) w = true

-- A call did what a word of a text comes to, or found no memory, which it asks for only where something grows.
abbrev pub IsSpoken : {A : Type 0} → TextAct → State Coding → State Coding → Result A Stop → Type 0
IsSpoken a old new result = Ends (text_grows a old.words) (text_acted flat_calls a old) old new result

-- the same of what may ask
abbrev pub IsHeard : {A : Type 0} → TextAct → State Coding → State Coding → Result A Halt → Type 0
IsHeard a old new result = Halts (text_grows a old.words) (text_acted flat_calls a old) old new result
