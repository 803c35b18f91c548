-- The table: what each word of a text comes to, with what it parses (Forth 2012, 6.1, 6.2 and 15.6.2; IEEE 1275-1994,
-- 7.3 and annex A). What the table looks at is read behind the word.
use Rattle.std.specs.Prelude.{ℕ, ◌==◌, ◌&&◌, nat_lt, not, Bool, List, [], ◌∷◌, length, drop, Option}
use Rattle.std.specs.Prelude.{Some, None, Result, Ok, Err, if◌then◌else◌}
use Rattle.of_cells.specs.declared.cells.Cell.{Cell}
use Rattle.of_stacks.specs.declared.throws.Throw.{Throw}
use Rattle.of_stacks.specs.Throws.{bad_handle, compile_only, empty_name, invalid_argument, no_node}
use Rattle.of_stacks.specs.Throws.{stack_underflow}
use Rattle.of_fcodes.specs.declared.console_words.CompilingWord.{CompilingWord}
use Rattle.of_fcodes.specs.declared.console_words.CompilingWord.TheVariants as compiling
use Rattle.of_dict.specs.Words.{xt_of}
use Rattle.of_memory.specs.DataSpace.{DataSpace}
use Rattle.of_nodes.specs.declared.fault.NodeFault.{NodeFault}
use Rattle.of_nodes.specs.declared.phandles.Phandle.{Phandle}
use Rattle.of_nodes.specs.declared.tree.Node.{Node}
use Rattle.of_nodes.specs.Lookup.{way_found}
use Rattle.of_nodes.specs.Nodes.{phandle_of}
use Rattle.of_control.specs.Element.{Element, Plain, Roll}
use Rattle.of_compile.specs.declared.element.PlainItem.{PlainItem}
use Rattle.of_compile.specs.declared.element.PlainItem.TheVariants as plain
use Rattle.of_compile.specs.Tokens.{called, text_elements}
use Rattle.of_compile.specs.Words.{is_word}
use Rattle.of_board.specs.declared.board.Board.{Board}
use Rattle.of_flow.specs.Returns.{pushed}
use Rattle.of_flow.specs.Texts.{latest_text}
use Rattle.of_own.specs.Stores.{store_entry}
use Rattle.of_scan.specs.Parts.{quoted_part}
use Rattle.of_text.specs.declared.words.TextWord.{TextWord}
use Rattle.of_text.specs.declared.words.TextWord.TheVariants as text
use Rattle.of_text.specs.Reading.{bytes_in}
use Rattle.of_eval.specs.Acts.{Appends, Closes, Does, Ends, Fails, Front, Leaves, Prints, WordAct, keeping, leaving}
use Rattle.of_eval.specs.Executing.{execution}
use Rattle.of_eval.specs.Tokens.{appending}
use Rattle.of_interpret.specs.TextActs.{Acts, AppendsAll, Interprets, Names, Says, Sees, Selects, Spells, TextAct}

-- ---- in both states

-- a word that is found is called by the open definition while words are compiled, unless it is immediate
abbrev pub call_act : Cell → Front → WordAct
call_act xt f = if is_word f.words.dictionary xt.0 then appending (Plain (called xt)) f else Fails bad_handle

abbrev pub found_act : Cell → Bool → Front → WordAct
found_act xt immediate f = if f.flow.is_compiling && not immediate then call_act xt f else execution xt.0 f

-- a cell is compiled as a literal, or left
abbrev pub literal_act : Cell → Front → WordAct
literal_act x f =
    if f.flow.is_compiling then appending (Plain (plain.Literal x)) f else leaving (pushed x f.board.stack)

-- what needs a cell that was found
abbrev pub with_found : Result Cell Throw → (Cell → WordAct) → WordAct
with_found (Ok x) a = a x
with_found (Err t) a = Fails t

-- `to` ( x -- ) looks for its cell before it asks what its name finds
abbrev pub stored_act : Result Cell Throw → List Cell → Front → WordAct
stored_act (Ok xt) cells f = keeping (store_entry xt.0 f.words f.board)
stored_act (Err t) [] f = Fails stack_underflow
stored_act (Err t) (x ∷ cells) f = Fails t

abbrev pub to_act : Result Cell Throw → Front → WordAct
to_act r f =
    if f.flow.is_compiling then with_found r (λ xt. appending (Plain (plain.Store xt)) f)
    else stored_act r f.board.stack f

-- ---- strings

-- `type`, as an item
abbrev pub type_element : Element PlainItem
type_element = Plain (called (record { 0 = 0xC000_0278 }))

abbrev pub longest_string : ℕ
longest_string = 255

abbrev pub unless_long : List ℕ → TextAct → TextAct
unless_long bytes a = if nat_lt longest_string (length bytes) then Acts (Does (Fails invalid_argument)) else a

-- `s"` and `"` ( -- a n )
abbrev pub string_act : List ℕ → Front → TextAct
string_act bytes f =
    unless_long bytes (if f.flow.is_compiling then Spells bytes [] else Says bytes)

-- `."` ( -- )
abbrev pub printed_act : List ℕ → Front → TextAct
printed_act bytes f =
    unless_long bytes
    (if f.flow.is_compiling then Spells bytes (type_element ∷ []) else Acts (Does (Prints bytes)))

-- the bytes behind `"`, with its groups
abbrev pub quoted_bytes : List ℕ → ℕ → List ℕ
quoted_bytes text at = (quoted_part (drop at text)).0

-- ---- `dev`

abbrev pub node_found : Result (Option Phandle) NodeFault → Result Phandle Throw
node_found (Ok (Some node)) = Ok node
node_found (Ok None) = Err no_node
node_found (Err fault) = Err no_node

-- from the active package on
abbrev pub node_below : Option Phandle → List ℕ → DataSpace → List Node → Result Phandle Throw
node_below None path m nodes = Err no_node
node_below (Some node) path m nodes = node_found (way_found m nodes node path)

-- the node of a path: from the root on behind a slash, else from the active package on
abbrev pub node_at : List ℕ → Board → Result Phandle Throw
node_at [] b = Err empty_name
node_at (x ∷ path) b =
    if x == 47 then node_found (way_found b.memory b.tree (phandle_of 0) path)
    else node_below b.active.«package» (x ∷ path) b.memory b.tree

abbrev pub selecting : Result Phandle Throw → TextAct
selecting (Ok node) = Selects node
selecting (Err t) = Acts (Does (Fails t))

-- ---- `see`

abbrev pub seeing : Result Cell Throw → TextAct
seeing (Ok xt) = Sees xt
seeing (Err t) = Acts (Does (Fails t))

-- ---- words that serve while words are compiled

abbrev pub only_compiling : Front → TextAct → TextAct
only_compiling f a = if f.flow.is_compiling then a else Acts (Does (Fails compile_only))

abbrev pub only_interpreting : Front → WordAct → WordAct
only_interpreting f a = if f.flow.is_compiling then Fails compile_only else a

-- `recurse` calls the open definition
abbrev pub recursing : Option ℕ → Front → WordAct
recursing None f = Fails compile_only
recursing (Some n) f = appending (Plain (called (record { 0 = xt_of n }))) f

-- `literal` ( x -- )
abbrev pub literal_taken : List Cell → WordAct
literal_taken [] = Fails stack_underflow
literal_taken (x ∷ cells) = Appends (Plain (plain.Literal x)) cells

-- `cs-roll` ( n -- )
abbrev pub roll_taken : List Cell → WordAct
roll_taken [] = Fails stack_underflow
roll_taken (n ∷ cells) = Appends (Roll n.0) cells

-- `to,` ( xt -- )
abbrev pub store_taken : List Cell → Front → WordAct
store_taken [] f = Fails stack_underflow
store_taken (xt ∷ cells) f =
    if is_word f.words.dictionary xt.0 then Appends (Plain (plain.Store xt)) cells else Fails bad_handle

-- a word of control leaves its elements
abbrev pub control : CompilingWord → Front → TextAct
control w f = AppendsAll (text_elements w) f.board.stack

-- the table, a word a line, while words are compiled; two of these words parse, and stand in the table below
unfoldable pub compiling_act : CompilingWord → Front → TextAct
compiling_act compiling.Semicolon f = Acts Closes
compiling_act compiling.If f = control compiling.If f
compiling_act compiling.Else f = control compiling.Else f
compiling_act compiling.Then f = control compiling.Then f
compiling_act compiling.Ahead f = control compiling.Ahead f
compiling_act compiling.Begin f = control compiling.Begin f
compiling_act compiling.While f = control compiling.While f
compiling_act compiling.Repeat f = control compiling.Repeat f
compiling_act compiling.Until f = control compiling.Until f
compiling_act compiling.Again f = control compiling.Again f
compiling_act compiling.Do f = control compiling.Do f
compiling_act compiling.QuestionDo f = control compiling.QuestionDo f
compiling_act compiling.Loop f = control compiling.Loop f
compiling_act compiling.PlusLoop f = control compiling.PlusLoop f
compiling_act compiling.Leave f = control compiling.Leave f
compiling_act compiling.Case f = control compiling.Case f
compiling_act compiling.Of f = control compiling.Of f
compiling_act compiling.EndOf f = control compiling.EndOf f
compiling_act compiling.EndCase f = control compiling.EndCase f
compiling_act compiling.Recurse f = Acts (Does (recursing f.words.defining f))
compiling_act compiling.Literal f = Acts (Does (literal_taken f.board.stack))
compiling_act compiling.LeaveCompiling f = Interprets
compiling_act compiling.BracketTick f = Acts (Does (Fails compile_only))
compiling_act compiling.BracketChar f = Acts (Does (Fails compile_only))
compiling_act compiling.ControlRoll f = Acts (Does (roll_taken f.board.stack))
compiling_act compiling.CommaTo f = Acts (Does (store_taken f.board.stack f))

-- a cell that is found is compiled as a literal, only while words are compiled
abbrev pub bracketed : Result Cell Throw → Front → TextAct
bracketed r f = only_compiling f (Acts (Does (with_found r (λ x. appending (Plain (plain.Literal x)) f))))

-- ---- all words of a text

unfoldable pub text_act : TextWord → Front → TextAct
text_act text.End f = Acts Ends
text_act (text.Found xt immediate) f = Acts (Does (found_act xt immediate f))
text_act (text.Number r) f = Acts (Does (with_found r (λ x. literal_act x f)))
text_act (text.Defining d p) f = Names d (bytes_in (latest_text f.flow.texts) p)
text_act (text.Tick r) f = Acts (Does (with_found r (λ xt. leaving (pushed xt f.board.stack))))
text_act (text.To r) f = Acts (Does (to_act r f))
text_act (text.See r) f = seeing r
text_act (text.Device p) f = selecting (node_at (bytes_in (latest_text f.flow.texts) p) f.board)
text_act (text.Plain p) f = string_act (bytes_in (latest_text f.flow.texts) p) f
text_act (text.Quoted at) f = string_act (quoted_bytes (latest_text f.flow.texts) at) f
text_act (text.Printed p) f = printed_act (bytes_in (latest_text f.flow.texts) p) f
text_act (text.Char r) f =
    Acts (Does (only_interpreting f (with_found r (λ x. leaving (pushed x f.board.stack)))))
text_act (text.BracketTick r) f = bracketed r f
text_act (text.BracketChar r) f = bracketed r f
text_act text.Comment f = Acts (Does (Leaves f.board.stack))
text_act (text.Compiling w) f = only_compiling f (compiling_act w f)
