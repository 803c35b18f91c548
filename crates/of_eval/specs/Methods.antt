-- A named word becomes a method of the package that is active at its defining token, or a global word where none is
-- (IEEE 1275-1994, 3.2.2 and 5.3.3.1).
use Rattle.std.specs.Prelude.{◌≡◌, ℕ, Bool, true, false, List, Option, Some, None, Result, Ok, Err}
use Rattle.of_cells.specs.declared.cells.Cell.{Cell}
use Rattle.of_stacks.specs.declared.throws.Throw.{Throw}
use Rattle.of_dict.specs.Words.{name_in, word_at, xt_of}
use Rattle.of_compile.specs.Defining.{hidden_word}
use Rattle.of_nodes.specs.declared.tree.Node.{Node}
use Rattle.of_nodes.specs.declared.phandles.Phandle.{Phandle}
use Rattle.of_nodes.specs.declared.fault.NodeFault.{NodeFault}
use Rattle.of_nodes.specs.Nodes.{method_added, method_found}
use Rattle.of_eval.specs.declared.methods.Former.{Former}
use Rattle.of_state.specs.State.{Outcome, State}

-- the nodes with a method, if it could be added
abbrev pub nodes_with : Result (List Node) NodeFault → Option (List Node)
nodes_with (Ok nodes) = Some nodes
nodes_with (Err fault) = None

-- the nodes with a word as the method of a name, where a package is active and there is a name
abbrev pub method_made : Option Phandle → Option (List ℕ) → Cell → List Node → Option (List Node)
method_made (Some node) (Some name) xt nodes = nodes_with (method_added nodes node name xt)
method_made (Some node) None xt nodes = None
method_made None name xt nodes = None

abbrev pub with_tree : {S : Type 0} → List Node → State S → State S
with_tree nodes s = record s { board = record s.board { tree = nodes } }

-- no search of the dictionary finds word n, if it is a method
abbrev pub hidden_if : {S : Type 0} → Bool → ℕ → State S → State S
hidden_if true n s = record s { words = hidden_word n s.words }
hidden_if false n s = s

-- word n is a method from now on, and no search of the dictionary finds it; or it is a global word
abbrev pub as_method : {S : Type 0} → Option (List Node) → ℕ → State S → State S
as_method (Some nodes) n s = hidden_if true n (with_tree nodes s)
as_method None n s = s

abbrev pub xt_cell : ℕ → Cell
xt_cell n = record { 0 = xt_of n }

-- word n of a package was made, and can be found by its name from now on
abbrev pub known : {S : Type 0} → Option Phandle → ℕ → State S → State S
known home n s =
    as_method (method_made home (name_in (word_at s.words.dictionary n)) (xt_cell n) s.board.tree) n s

abbrev pub known_if : {S : Type 0} → Result (Unit {0}) Throw → Option Phandle → ℕ → State S → State S
known_if (Ok x) home n s = known home n s
known_if (Err t) home n s = s

-- what making a word of a package came to, which can be found by its name if nothing was thrown
abbrev pub then_known : {S : Type 0} → Option Phandle → Option ℕ → Outcome S → Outcome S
then_known home None o = o
then_known home (Some n) o = record { state = known_if o.ended home n o.state; ended = o.ended; asks = o.asks }

-- the word that a name meant in the package before
abbrev pub WasFormer : Option Phandle → List ℕ → Former → List Node → Type 0
WasFormer home name f old = (home ≡ Some f.node) × (method_found old f.node name ≡ Ok f.before)

-- a word was made the method of a name, or couldn't be, and the nodes are as they were
abbrev pub MayMake : Option Phandle → List ℕ → Cell → Option Former → List Node → List Node → Type 0
MayMake home name xt None old new = (method_made home (Some name) xt old ≡ None) × (new ≡ old)
MayMake home name xt (Some f) old new =
    (method_made home (Some name) xt old ≡ Some new) × WasFormer home name f old
