-- To which package the name of a definition belongs (IEEE 1275-1994, 3.2.2 and 5.3.3.1; Forth 2012, 6.1.0450).
use Rattle.std.specs.Prelude.{◌≡◌, ℕ, List, Option, Ok}
use Rattle.of_nodes.specs.declared.phandles.Phandle.{Phandle}
use Rattle.of_compile.specs.declared.defining.DefiningWord.TheVariants as defining
use Rattle.of_eval.specs.Defining.{define_entry, semicolon_entry}
use Rattle.of_eval.specs.Naming.{naming_done}
use Rattle.of_state.specs.State.{Calls, State}

-- the same state while another package is active
abbrev pub with_package : {S : Type 0} → Option Phandle → State S → State S
with_package node s =
    record s { board = record s.board { active = record s.board.active { «package» = node } } }

-- A definition's name belongs to the package that was active at its `b(:)`, or at the `:` of a text.
pub record NamesStayHome (S : Type 0) : Type 0 where
  -- `b(:)` keeps the package that is active
  pub kept :
      (c : Calls S) (s : State S) → (define_entry c defining.Colon s).ended ≡ Ok tt →
      (define_entry c defining.Colon s).state.flow.home ≡ s.board.active.«package»
  -- and so does `:` with its name
  pub kept_named :
      (c : Calls S) (name : List ℕ) (s : State S) → (naming_done c defining.Colon name s).ended ≡ Ok tt →
      (naming_done c defining.Colon name s).state.flow.home ≡ s.board.active.«package»
  -- and whatever package is active at its `b(;)` or `;`, that makes the same methods and words
  pub anywhere :
      (c : Calls S) (o : Option ℕ) (node : Option Phandle) (s : State S) →
      let here = semicolon_entry c o s in
      let there = semicolon_entry c o (with_package node s) in
      (there.ended ≡ here.ended) × (there.state.board.tree ≡ here.state.board.tree)
      × (there.state.words ≡ here.state.words) × (there.state.code ≡ here.state.code)
