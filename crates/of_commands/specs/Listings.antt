-- What is printed of a run, with what is listed behind it.
use Rattle.std.specs.Prelude.{ℕ, ◌-◌, Bool, false, nat_eq, List, [], ◌∷◌, ◌++◌, length, slice_index_or}
use Rattle.std.specs.Prelude.{Option, Some, None, is_none, if◌then◌else◌}
use Rattle.of_cells.specs.declared.cells.Cell.{Cell}
use Rattle.of_compile.specs.Coding.{Coding}
use Rattle.of_console.specs.Texts.{tree_text}
use Rattle.of_interpret.specs.TextActs.{seen}
use Rattle.of_state.specs.State.{flat_calls}
use Rattle.of_machine.specs.States.{MachineState}
use Rattle.of_machine.specs.Views.{word_named, words_listed}
use Rattle.of_arguments.specs.Asked.{Appendix}
use Rattle.of_runs.specs.Runs.{console_of}
use Rattle.of_commands.specs.States.{state_text}

-- whether no line is open at the end of a text
abbrev pub ends_line : List ℕ → Bool
ends_line text = nat_eq (slice_index_or text (length text - 1) 10) 10

-- a newline behind a text, where a line is open at its end
abbrev pub newline_behind : List ℕ → List ℕ
newline_behind text = if ends_line text then [] else 10 ∷ []

-- lines of their own behind a text, if there are any
abbrev pub lines_behind : List ℕ → List ℕ → List ℕ
lines_behind text [] = []
lines_behind text (b ∷ lines) = newline_behind text ++ b ∷ lines

-- the device tree, where that is asked for
abbrev pub tree_if : Bool → MachineState Coding → List ℕ
tree_if tree m = if tree then tree_text m.eval.board.memory m.eval.board.tree else []

-- what `words` would print, where that is asked for
abbrev pub words_if : Bool → MachineState Coding → List ℕ
words_if words m = if words then words_listed m.eval else []

-- what `see` would print of a word, if there is one
abbrev pub see_word : Option Cell → MachineState Coding → List ℕ
see_word None m = []
see_word (Some xt) m = seen flat_calls xt m.eval

-- of the word of a name, where one is asked for
abbrev pub see_named : Option (List ℕ) → MachineState Coding → List ℕ
see_named None m = []
see_named (Some name) m = see_word (word_named m.eval name) m

-- the state, where that is asked for
abbrev pub state_if : Bool → MachineState Coding → List ℕ
state_if state m = if state then state_text m else []

-- what is listed of a machine
abbrev pub listings_text : Appendix → MachineState Coding → List ℕ
listings_text a m = tree_if a.tree m ++ words_if a.words m ++ see_named a.see m ++ state_if a.state m

-- what is listed behind what a machine printed
abbrev pub listed_behind : Appendix → MachineState Coding → List ℕ
listed_behind a m = lines_behind (console_of m) (listings_text a m)

-- the console bytes of a run, and behind them what is listed
abbrev pub run_text : Appendix → MachineState Coding → List ℕ
run_text a m = console_of m ++ listed_behind a m

-- whether a word is asked for by a name that none has
abbrev pub lacks_word : Option (List ℕ) → MachineState Coding → Bool
lacks_word None m = false
lacks_word (Some name) m = is_none (word_named m.eval name)
