-- The law `printed_stays`: the end of a step, steps, and what begins.
use Rattle.std.proofs.Common.{◌≡◌, ℕ, zero, suc, Bool, true, false, List, [], ◌∷◌, Option, Some, None, Result, Ok}
use Rattle.std.proofs.Common.{Err, refl, subst, if◌then◌else◌}
use Rattle.std.specs.Prelude.{◌&&◌, is_none, option_and_then, ◌==◌}
use Rattle.of_cells.specs.declared.cells.Cell.{Cell}
use Rattle.of_asking.specs.declared.query.Answer.{Answer}
use Rattle.of_stacks.specs.declared.return_item.Due.{Due}
use Rattle.of_stacks.specs.declared.return_item.Due.TheVariants as due
use Rattle.of_stacks.specs.declared.return_item.ExceptionFrame.{ExceptionFrame}
use Rattle.of_stacks.specs.declared.return_item.ReturnItem.{ReturnItem}
use Rattle.of_stacks.specs.declared.return_item.ReturnItem.TheVariants.{Return, Loop, User, Handler, Source, Caller}
use Rattle.of_stacks.specs.declared.throws.Throw.{Throw}
use Rattle.of_stacks.specs.Returns.{is_due}
use Rattle.of_stacks.specs.Throws.{stack_overflow}
use Rattle.of_memory.specs.DataSpace.{DataSpace}
use Rattle.of_ihandles.specs.Table.{InstanceTable}
use Rattle.of_ihandles.specs.declared.instance_fault.InstanceFault.{InstanceFault}
use Rattle.of_nodes.specs.declared.phandles.Phandle.{Phandle}
use Rattle.of_board.specs.Active.{with_self}
use Rattle.of_board.specs.Text.{fault_text}
use Rattle.of_board.specs.declared.board.Board.{Board}
use Rattle.of_fcodes.specs.declared.words.Word.{Word}
use Rattle.of_state.specs.Loading.{begun_by, begun_unless, instance_on, load_fault}
use Rattle.of_state.specs.declared.load_fault.LoadFault.{LoadFault}
use Rattle.of_state.specs.Settling.{caller_self, caught, cut_one, due_left, fallen, given_up_since, is_full, is_same}
use Rattle.of_state.specs.Settling.{load_left, open_answered, released_in, resumed, settled, still_thrown, thrown_at}
use Rattle.of_state.specs.Settling.{thrown_in, uncaught, worked_one}
use Rattle.of_state.specs.State.{Calls, Outcome, State, given_up, open_xt, with_board, with_items}
use Rattle.of_steps.specs.Steps.{answered, asked_by, due as what_is_due, made, replied, settled_of, stepped, steps_from}
use Rattle.of_words.specs.Words.{word_entry}
use Rattle.of_print_laws.specs.Printed.{Begins, PrintedStays, output, output_on}
use Rattle.of_print_laws.proofs.Acts.{Goes, Same, due_goes, given_up_same, stays}
use Rattle.of_print_laws.proofs.Words.{GoesOn, behind, itself, then_more, word_goes_on}

-- ---- a throw

either_same : {S : Type 0} (b : Bool) (s x y : State S) → Same s x → Same s y → Same s (if b then x else y)
either_same true s x y h k = h
either_same false s x y h k = k

since_same : {S : Type 0} (c : Calls S) (opened : Option Cell) (s : State S) → Same s (given_up_since c opened s)
since_same c opened s = either_same (is_same (open_xt s) opened) s s (given_up c s) refl (given_up_same c s)

caught_same : {S : Type 0} (c : Calls S) (h : ExceptionFrame) (t : Throw) (s : State S) → Same s (caught c h t s)
caught_same c h t s = since_same c h.opened (resumed h t s)

uncaught_goes : {S : Type 0} (c : Calls S) (t : Throw) (s : State S) → Goes s (uncaught c t s)
uncaught_goes c t s =
    then_more (output s) (output (fallen t s)) (output (uncaught c t s)) (behind (output s) (fault_text t))
    (stays (fallen t s) (uncaught c t s) (given_up_same c (fallen t s)))

load_same : {S : Type 0} (d : Due) (s : State S) → Same s (load_left d s)
load_same (due.Load active me instance count) s = refl
load_same (due.Method me) s = refl
load_same (due.Open me instance) s = refl
load_same (due.Close me instance) s = refl

cut_same : {S : Type 0} (c : Calls S) (item : ReturnItem) (t : Throw) (s : State S) → Same s (cut_one c item t s)
cut_same c (Handler h) t s = caught_same c h t s
cut_same c (Source r) t s = refl
cut_same c (Return to) t s = refl
cut_same c (Loop l) t s = refl
cut_same c (User x) t s = refl
cut_same c (Caller d) t s = load_same d s

-- ---- what is due

open_same : {S : Type 0} (ih : Cell) (cells : List Cell) (s : State S) → Same s (open_answered ih cells s)
open_same ih [] s = refl
open_same ih (x ∷ cells) s = either_same (x.0 == 0) s (released_in ih s) _ refl refl

due_same : {S : Type 0} (d : Due) (s : State S) → Same s (due_left d s)
due_same (due.Load active me instance count) s = refl
due_same (due.Close me instance) s = refl
due_same (due.Method me) s = refl
due_same (due.Open me instance) s = open_same instance s.board.stack s

worked_same : {S : Type 0} (c : Calls S) (item : ReturnItem) (s : State S) → Same s (worked_one c item s)
worked_same c (Handler h) s =
    either_same (is_full s) s (caught c h stack_overflow s) _ (caught_same c h stack_overflow s) refl
worked_same c (Caller d) s = due_same d (with_board (with_self s.board (caller_self d)) s)
worked_same c (Source r) s = refl
worked_same c (Return to) s = refl
worked_same c (Loop l) s = refl
worked_same c (User x) s = refl

-- ---- the end of a step

either_goes : {S : Type 0} (b : Bool) (s x y : State S) → Goes s x → Goes s y → Goes s (if b then x else y)
either_goes true s x y h k = h
either_goes false s x y h k = k

goes_on : {S : Type 0} (s between after : State S) → Goes s between → Goes between after → Goes s after
goes_on s between after h k = then_more (output s) (output between) (output after) h k

settles : {S : Type 0} (c : Calls S) (items : List ReturnItem) (thrown : Option Throw) (s : State S)
    → Goes s (settled c items thrown s)
unfolding settled
settles c [] None s = itself (output s)
settles c [] (Some t) s = uncaught_goes c t s
settles c (item ∷ r) (Some t) s =
    let between = cut_one c item t (with_items r s) in
    goes_on s between (settled c r (still_thrown item t) between) (stays s between (cut_same c item t (with_items r s)))
    (settles c r (still_thrown item t) between)
settles c (item ∷ r) None s =
    let between = worked_one c item (with_items r s) in
    either_goes (is_due item) s (settled c r (thrown_at item s) between) s
    (goes_on s between (settled c r (thrown_at item s) between) (stays s between (worked_same c item (with_items r s)))
    (settles c r (thrown_at item s) between))
    (itself (output s))

-- ---- steps

settled_goes : {S : Type 0} (c : Calls S) (s : State S) (o : Outcome S) → Goes s o.state → Goes s (settled_of c o)
settled_goes c s o h =
    goes_on s o.state (settled_of c o) h (settles c o.state.flow.items (thrown_in o.ended) o.state)

step_goes : {S : Type 0} (c : Calls S) (s : State S) → Goes s (stepped c s)
unfolding stepped
step_goes c s =
    let o = what_is_due c s.flow.next s in
    either_goes s.flow.is_running s (settled_of c o) s (settled_goes c s o (due_goes c s.flow.next s))
    (itself (output s))

answered_goes : {S : Type 0} (c : Calls S) (answer : Answer) (s : State S) → Goes s (answered c answer s)
answered_goes c answer s = step_goes c (replied answer s)

one_goes : {S : Type 0} (c : Calls S) (b : Bool) (first s after : State S) → Goes first s
    → (if b then Some (stepped c s) else None) ≡ Some after → Goes first after
one_goes c true first s after h e =
    let same : stepped c s ≡ after = cc in
    subst (λ x. Goes first x) same (goes_on first s (stepped c s) h (step_goes c s))
one_goes c false first s after h e = absurd cc

then_goes : {S : Type 0} (c : Calls S) (first : State S) (o : Option (State S)) (after : State S)
    → ((s : State S) → o ≡ Some s → Goes first s) → option_and_then (made c) o ≡ Some after → Goes first after
then_goes c first None after h e = absurd cc
then_goes c first (Some s) after h e =
    one_goes c (s.flow.is_running && is_none (asked_by c s)) first s after (h s refl) e

steps_go : {S : Type 0} (c : Calls S) (n : ℕ) (s after : State S) → steps_from c n s ≡ Some after → Goes s after
unfolding steps_from
steps_go c zero s after e = let same : s ≡ after = cc in subst (λ x. Goes s x) same (itself (output s))
steps_go c (suc n) s after e = then_goes c s (steps_from c n s) after (λ x f. steps_go c n s x f) e

-- ---- what begins

by_opening : {S : Type 0} (image : List ℕ) (node : Phandle)
    (r : Result (Cell × (InstanceTable × DataSpace)) InstanceFault) (s : State S) → Same s (begun_by image node r s)
by_opening image node (Ok x) s = refl
by_opening image node (Err fault) s = refl

unless_same : {S : Type 0} (o : Option LoadFault) (image : List ℕ) (node : Phandle) (s : State S)
    → Same s (begun_unless o image node s)
unless_same None image node s = by_opening image node (instance_on node s.board) s
unless_same (Some fault) image node s = refl

-- ---- the law

word_goes : (w : Word) (b after : Board) → word_entry w b ≡ Ok after → Begins (output_on b) (output_on after)
word_goes w b after e = subst (λ r. GoesOn b r) e (word_goes_on w b)

pub printed_stays : (S : Type 0) → PrintedStays S
printed_stays S = record {
  begun = λ image node s. unless_same (load_fault image node s) image node s;
  line = λ text s. refl;
  words = word_goes;
  done = λ c s. due_goes c s.flow.next s;
  settled = λ c items thrown s. settles c items thrown s;
  step = step_goes;
  answered = answered_goes;
  steps = steps_go;
}
