-- The law `text_words_do`.
use Rattle.std.proofs.Common.{◌≡◌, ◌<◌, ◌&&◌, ℕ, suc, nat_lt, Bool, true, false, not, List, ◌∷◌, length, Some, Result}
use Rattle.std.proofs.Common.{Ok, is_some, refl, arith}
use Rattle.std.proofs.lemmas.Bool.Decides.{nat_tests}
use Rattle.of_cells.specs.declared.cells.Cell.{Cell}
use Rattle.of_stacks.specs.declared.throws.Throw.{Throw}
use Rattle.of_stacks.specs.Throws.{compile_only, compiler_nesting}
use Rattle.of_fcodes.specs.declared.console_words.CompilingWord.{CompilingWord}
use Rattle.of_fcodes.specs.declared.console_words.CompilingWord.TheVariants as compiling
use Rattle.of_dict.specs.Words.{xt_of}
use Rattle.of_control.specs.Element.{Plain, Roll}
use Rattle.of_compile.specs.declared.element.PlainItem.TheVariants as plain
use Rattle.of_compile.specs.Tokens.{called}
use Rattle.of_compile.specs.Words.{is_word}
use Rattle.of_text.specs.declared.words.TextWord.TheVariants as text
use Rattle.of_eval.specs.Doing.{acted, executed, worked}
use Rattle.of_interpret.specs.Laws.{Does, Leaves, TextWordsDo, Throws, after}
use Rattle.of_interpret.specs.TextActs.{text_acted}
use Rattle.of_interpret.specs.TextWords.{compiling_act, text_act}
use Rattle.of_state.specs.Settling.{ends_inside, is_line, is_same, source_ended}
use Rattle.of_state.specs.State.{Calls, State, failed, given_up, open_xt, with_compiling, with_stack}

fits : (n : ℕ) → n < 256 → nat_lt 256 (suc n) ≡ false
fits n h = grind (arith, nat_tests, h)

number : {S : Type 0} (c : Calls S) (x : Cell) (s : State S) → s.flow.is_compiling ≡ false
    → length s.board.stack < 256 → Does c (text.Number (Ok x)) s (with_stack (x ∷ s.board.stack) s)
unfolding text_act text_acted acted worked
number c x s e h = rw (e, fits (length s.board.stack) h) refl

ticks : {S : Type 0} (c : Calls S) (xt : Cell) (s : State S) → length s.board.stack < 256
    → Does c (text.Tick (Ok xt)) s (with_stack (xt ∷ s.board.stack) s)
unfolding text_act text_acted acted worked
ticks c xt s h = rw (fits (length s.board.stack) h) refl

runs : {S : Type 0} (c : Calls S) (xt : Cell) (i : Bool) (s : State S) → s.flow.is_compiling ≡ false
    → after c (text.Found xt i) s ≡ executed c xt.0 s
unfolding text_act text_acted acted
runs c xt i s e = rw e refl

both_not : (b : Bool) → (b && false) ≡ false
both_not true = refl
both_not false = refl

immediate : {S : Type 0} (c : Calls S) (xt : Cell) (s : State S)
    → after c (text.Found xt true) s ≡ executed c xt.0 s
unfolding text_act text_acted acted
immediate c xt s = rw (both_not s.flow.is_compiling) refl

literal : {S : Type 0} (c : Calls S) (x : Cell) (s : State S) (d : S) → s.flow.is_compiling ≡ true
    → Leaves c (Plain (plain.Literal x)) s d → Does c (text.Number (Ok x)) s (record s { code = d })
unfolding text_act text_acted acted worked
literal c x s d e h = rw (e, h) refl

calls : {S : Type 0} (c : Calls S) (xt : Cell) (s : State S) (d : S) → s.flow.is_compiling ≡ true
    → is_word s.words.dictionary xt.0 ≡ true → Leaves c (Plain (called xt)) s d
    → Does c (text.Found xt false) s (record s { code = d })
unfolding text_act text_acted acted worked
calls c xt s d e w h = rw (e, w, h) refl

only_compiling : {S : Type 0} (c : Calls S) (w : CompilingWord) (s : State S) → s.flow.is_compiling ≡ false
    → Throws c (text.Compiling w) s compile_only
unfolding text_act text_acted acted worked
only_compiling c w s e = rw e refl

only_tick : {S : Type 0} (c : Calls S) (r : Result Cell Throw) (s : State S) → s.flow.is_compiling ≡ false
    → Throws c (text.BracketTick r) s compile_only
unfolding text_act text_acted acted worked
only_tick c r s e = rw e refl

only_char : {S : Type 0} (c : Calls S) (r : Result Cell Throw) (s : State S) → s.flow.is_compiling ≡ false
    → Throws c (text.BracketChar r) s compile_only
unfolding text_act text_acted acted worked
only_char c r s e = rw e refl

only_executing : {S : Type 0} (c : Calls S) (r : Result Cell Throw) (s : State S) → s.flow.is_compiling ≡ true
    → Throws c (text.Char r) s compile_only
unfolding text_act text_acted acted worked
only_executing c r s e = rw e refl

recurses : {S : Type 0} (c : Calls S) (n : ℕ) (s : State S) (d : S) → s.flow.is_compiling ≡ true
    → s.words.defining ≡ Some n → Leaves c (Plain (called (record { 0 = xt_of n }))) s d
    → Does c (text.Compiling compiling.Recurse) s (record s { code = d })
unfolding text_act compiling_act text_acted acted worked
recurses c n s d e o h = rw (e, o, h) refl

takes_literal : {S : Type 0} (c : Calls S) (x : Cell) (cells : List Cell) (s : State S) (d : S)
    → s.flow.is_compiling ≡ true → s.board.stack ≡ x ∷ cells → Leaves c (Plain (plain.Literal x)) s d
    → Does c (text.Compiling compiling.Literal) s (record (with_stack cells s) { code = d })
unfolding text_act compiling_act text_acted acted worked
takes_literal c x cells s d e o h = rw (e, o, h) refl

takes_roll : {S : Type 0} (c : Calls S) (n : Cell) (cells : List Cell) (s : State S) (d : S)
    → s.flow.is_compiling ≡ true → s.board.stack ≡ n ∷ cells → Leaves c (Roll n.0) s d
    → Does c (text.Compiling compiling.ControlRoll) s (record (with_stack cells s) { code = d })
unfolding text_act compiling_act text_acted acted worked
takes_roll c n cells s d e o h = rw (e, o, h) refl

takes_store : {S : Type 0} (c : Calls S) (xt : Cell) (cells : List Cell) (s : State S) (d : S)
    → s.flow.is_compiling ≡ true → s.board.stack ≡ xt ∷ cells → is_word s.words.dictionary xt.0 ≡ true
    → Leaves c (Plain (plain.Store xt)) s d
    → Does c (text.Compiling compiling.CommaTo) s (record (with_stack cells s) { code = d })
unfolding text_act compiling_act text_acted acted worked
takes_store c xt cells s d e o w h = rw (e, o, w, h) refl

line_goes_on : (a b l : Bool) → l ≡ true → (a && b && not l) ≡ false
line_goes_on false b true e = refl
line_goes_on true false true e = refl
line_goes_on true true true e = refl
line_goes_on a b false e = absurd cc

line_ends : {S : Type 0} (c : Calls S) (s : State S) → is_line s.flow.reading.input s.flow.items ≡ true
    → Does c text.End s (source_ended s)
unfolding text_act text_acted acted
line_ends c s e =
    rw (line_goes_on (is_some s.words.defining) (not (is_same (open_xt s) s.flow.reading.opened))
    (is_line s.flow.reading.input s.flow.items) e) refl

gives_up : {S : Type 0} (c : Calls S) (s : State S) → ends_inside s ≡ true
    → after c text.End s ≡ failed compiler_nesting (given_up c s)
unfolding text_act text_acted acted
gives_up c s e = rw e refl

comment : {S : Type 0} (c : Calls S) (s : State S) → Does c text.Comment s s
unfolding text_act text_acted acted worked
comment c s = refl

leaves : {S : Type 0} (c : Calls S) (s : State S) → s.flow.is_compiling ≡ true
    → Does c (text.Compiling compiling.LeaveCompiling) s (with_compiling false s)
unfolding text_act compiling_act text_acted
leaves c s e = rw e refl

pub text_words_do : {S : Type 0} → TextWordsDo S
text_words_do = record {
  number = number;
  runs = runs;
  literal = literal;
  calls = calls;
  immediate = immediate;
  ticks = ticks;
  only_compiling = only_compiling;
  only_tick = only_tick;
  only_char = only_char;
  only_executing = only_executing;
  leaves_compiling = leaves;
  else_is = refl;
  while_is = refl;
  repeat_is = refl;
  recurses = recurses;
  takes_literal = takes_literal;
  takes_roll = takes_roll;
  takes_store = takes_store;
  prints_by_type = refl;
  comment = comment;
  line_ends = line_ends;
  gives_up = gives_up;
}
