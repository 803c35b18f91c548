-- What ends, gives up and appends to the open definition makes of its word and its code, or throws (IEEE 1275-1994,
-- 5.3.3.1 and annex A, `b(;)`, `compile,`; Forth 2012, 6.1.0460, 6.2.0945).
use Rattle.std.specs.Prelude.{ℕ, not, List, [], ◌∷◌, Option, Some, None, Result, Ok, Err, is_none, is_some}
use Rattle.std.specs.Prelude.{if◌then◌else◌}
use Rattle.of_cells.specs.declared.cells.Cell.{Cell}
use Rattle.of_stacks.specs.declared.throws.Throw.{Throw}
use Rattle.of_stacks.specs.Throws.{bad_handle, compile_only, compiler_nesting, dictionary_overflow, stack_underflow}
use Rattle.of_stacks.specs.Order.{counting, fault_if, unless}
use Rattle.of_control.specs.Element.{Plain}
use Rattle.of_dict.specs.Words.{xt_of}
use Rattle.of_compile.specs.Coding.{Coding, Outcome, abandoning, compiled, finishing, fits}
use Rattle.of_compile.specs.Defining.{abandoned, closed}
use Rattle.of_compile.specs.Elements.{own_item}
use Rattle.of_compile.specs.Tokens.{called}
use Rattle.of_compile.specs.Words.{WordsState, is_word}

-- ---- `b(;)`

-- the open word found by its name, where its code was finished
abbrev pub closed_with : WordsState → Coding → Result (Unit {0}) Throw → Result (WordsState × Coding) Throw
closed_with w c (Ok x) = Ok (closed w, c)
closed_with w c (Err t) = Err t

abbrev pub finished_as : WordsState → Outcome → Result (WordsState × Coding) Throw
finished_as w o = closed_with w o.coding o.ended

abbrev pub closing : Option ℕ → WordsState → Coding → Result (WordsState × Coding) Throw
closing None w c = Err compiler_nesting
closing (Some n) w c = finished_as w (finishing (record { 0 = xt_of n }) c)

abbrev pub closing_entry : WordsState → Coding → Result (WordsState × Coding) Throw
closing_entry w c = closing w.defining w c

-- ---- giving up

abbrev pub given_up : WordsState → Coding → WordsState × Coding
given_up w c = if is_some w.defining then (abandoned w, abandoning c) else (w, c)

-- ---- `compile,` ( xt -- )

abbrev pub compile_faults : WordsState → Coding → Cell → List (Option Throw)
compile_faults w c xt =
    fault_if (is_none w.defining) compile_only
    ∷ fault_if (not (is_word w.dictionary xt.0)) bad_handle
    ∷ fault_if (not (fits (own_item (Plain (called xt))) c.code)) dictionary_overflow
    ∷ []

abbrev pub compile_entry : WordsState → Coding → List Cell → Result (Coding × List Cell) Throw
compile_entry w c [] = Err (if is_none w.defining then compile_only else stack_underflow)
compile_entry w c (xt ∷ s) = unless (counting (compile_faults w c xt)) (compiled (Plain (called xt)) c, s)
