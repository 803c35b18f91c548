-- `evaluate`: a text that stands in the data space is read inside what runs (Forth 2012, 6.1.1360; IEEE 1275-1994,
-- annex A, `evaluate`).
use Rattle.std.specs.Prelude.{ℕ, ◌+◌, nat_lt, List, ◌∷◌, length, is_some, Result, Ok, Err, if◌then◌else◌}
use Rattle.of_cells.specs.declared.cells.Cell.{Cell}
use Rattle.of_stacks.specs.declared.return_item.Continuation.TheVariants as continuation
use Rattle.of_stacks.specs.declared.return_item.Input.TheVariants as input
use Rattle.of_stacks.specs.declared.return_item.ReturnItem.TheVariants.{Return, Source}
use Rattle.of_stacks.specs.Throws.{compiler_nesting, return_stack_overflow, stack_underflow}
use Rattle.of_memory.specs.Access.{read_bytes}
use Rattle.of_memory.specs.declared.fault.MemFault.{MemFault}
use Rattle.of_prims.specs.Data.{throw_of}
use Rattle.of_eval.specs.Acts.{Fails, Front, Reads, WordAct}
use Rattle.of_state.specs.State.{State, open_xt}

-- a copy of the text is read from its first byte on; behind it what came next, where it was read
abbrev pub text_nested : {S : Type 0} → List ℕ → List Cell → State S → State S
text_nested text cells s = record s {
  board = record s.board { stack = cells };
  flow = record s.flow {
    items = Source s.flow.reading ∷ Return s.flow.next ∷ s.flow.items;
    reading = record { input = input.Text 0; opened = open_xt s };
    next = continuation.Source;
    texts = text ∷ s.flow.texts;
  };
}

-- the bytes of a text that could be read, where the return stack has so many items
abbrev pub reading_act : Result (List ℕ) MemFault → ℕ → List Cell → WordAct
reading_act (Ok text) depth cells = if nat_lt 256 (depth + 2) then Fails return_stack_overflow else Reads text cells
reading_act (Err fault) depth cells = Fails (throw_of fault)

-- `evaluate` ( s n -- )
abbrev pub string_act : List Cell → Front → WordAct
string_act (n ∷ a ∷ cells) f = reading_act (read_bytes f.board.memory a.0 n.0) (length f.flow.items) cells
string_act cells f = Fails stack_underflow

-- it isn't executed while a definition is open
abbrev pub evaluate_act : Front → WordAct
evaluate_act f = if is_some f.words.defining then Fails compiler_nesting else string_act f.board.stack f
