-- The laws `items_go`, `definitions_run`, `catch_keeps`, `ends_go_back` and `loads_begin`.
use Rattle.std.proofs.Common.{Ok, ◌≡◌, ℕ, ◌<◌, ◌≤◌, ◌==◌, nat_lt, nat_le, Bool, true, false, not, List, [], ◌∷◌, ◌++◌}
use Rattle.std.proofs.Common.{length, Option, Some, None, Err, refl, ap, ◌∙◌, arith, if◌then◌else◌}
use Rattle.std.proofs.lemmas.Bool.{eq-eqb}
use Rattle.std.specs.Prelude.{is_some, option_map, ◌&&◌}
use Rattle.of_cells.specs.declared.cells.Cell.{Cell}
use Rattle.of_cells.specs.Arithmetic.{plus}
use Rattle.of_code.specs.declared.item.Item.TheVariants as item
use Rattle.of_code.specs.declared.item.Place.{Place}
use Rattle.of_stacks.specs.declared.return_item.Continuation.{Continuation}
use Rattle.of_stacks.specs.declared.return_item.LoopExit.TheVariants as exit
use Rattle.of_stacks.specs.declared.return_item.LoopParameters.{LoopParameters}
use Rattle.of_stacks.specs.declared.return_item.Reading.{Reading}
use Rattle.of_stacks.specs.declared.return_item.ReturnItem.{ReturnItem}
use Rattle.of_stacks.specs.declared.return_item.ReturnItem.TheVariants.{Caller, Handler, Loop, Return, Source, User}
use Rattle.of_stacks.specs.Loops.{loop_on_top, passes_limit}
use Rattle.of_stacks.specs.Returns.{return_on_top}
use Rattle.of_stacks.specs.Throws.{bad_handle, loop_unavailable, return_stack_imbalance, return_stack_overflow}
use Rattle.of_stacks.specs.Throws.{stack_underflow}
use Rattle.of_stacks.specs.Unwinding.{beneath_source, latest_source}
use Rattle.of_fcodes.specs.declared.words.ReturnsWord.TheVariants as returns
use Rattle.of_fcodes.specs.declared.words.ThrowsWord.TheVariants as throws
use Rattle.of_fcodes.specs.declared.words.Word.{Word}
use Rattle.of_fcodes.specs.declared.words.Word.TheVariants as word
use Rattle.of_fcodes.specs.Finding.{word_with_xt}
use Rattle.of_dict.specs.Words.{xt_of}
use Rattle.of_compile.specs.RunsLaw.{RunsByStructure}
use Rattle.of_compile.specs.Words.{is_word}
use Rattle.of_eval.specs.Acts.{Act, Behind, Does, Drops, Fails, Keeps, Moves, Pushes, To, Turns, front_of}
use Rattle.of_eval.specs.Doing.{acted, executed, worked}
use Rattle.of_eval.specs.Executing.{Catch, Execute, Plan, PlansUnroll, Stops, act_of_plan, execution, frame_of, guarded}
use Rattle.of_eval.specs.Executing.{plan_at, plan_behind, plan_in, plan_of, planned, pushing, returning, runner_of}
use Rattle.of_eval.specs.Items.{beginning, control_act, going, item_act, leave_item, staying, there, turning}
use Rattle.of_flow.specs.Turns.{loop_item, one}
use Rattle.of_state.specs.Settling.{ended, ends_inside, going_back, is_line, is_same, or_nothing, reading_on}
use Rattle.of_state.specs.Settling.{source_ended}
use Rattle.of_state.specs.State.{Calls, Outcome, State, done, failed, open_xt, with_items, with_next, with_stack}
use Rattle.of_steps.specs.Steps.{item_done, item_due}
use Rattle.of_eval_laws.specs.Structured.{structured_calls}
use Rattle.of_eval_laws.specs.Going.{CatchKeeps, DefinitionsRun, EndsGoBack, Is, ItemsGo, ItemsThrow, LoadsBegin}
use Rattle.of_eval_laws.specs.Going.{Makes, Throws, gone, on}
use Rattle.of_own.specs.Defers.{executable}

pub if_is : {A : Type 0} (b : Bool) (x y : A) → b ≡ true → (if b then x else y) ≡ x
if_is true x y e = refl
if_is false x y e = absurd cc

pub if_not : {A : Type 0} (b : Bool) (x y : A) → b ≡ false → (if b then x else y) ≡ y
if_not false x y e = refl
if_not true x y e = absurd cc

pub other : (x y : ℕ) → (x ≡ y → ⊥) → (x == y) ≡ false
other x y h = grind (arith, h)

-- ---- items

-- a word of control whose act is that
as_acted : {S : Type 0} (c : Calls S) (s : State S) (a b : Act) → a ≡ b → acted c a s ≡ acted c b s
as_acted c s a b e = ap (λ x. acted c x s) e

branch_goes : {S : Type 0} (c : Calls S) (to : Place) (s : State S) → Makes c (item.Branch to) s (gone to s)
unfolding item_act control_act acted worked
branch_goes c to s = refl

arm_goes : {S : Type 0} (c : Calls S) (to : Place) (s : State S) → Makes c (item.EndOf to) s (gone to s)
unfolding item_act control_act acted worked
arm_goes c to s = refl

case_stays : {S : Type 0} (c : Calls S) (s : State S) (x : Cell) (cells : List Cell)
    → Makes c item.EndCase (with_stack (x ∷ cells) s) (with_stack cells s)
unfolding item_act control_act acted worked
case_stays c s x cells = refl

zero_goes : {S : Type 0} (c : Calls S) (to : Place) (s : State S) (x : Cell) (cells : List Cell) → x.0 ≡ 0
    → Makes c (item.BranchIfZero to) (with_stack (x ∷ cells) s) (gone to (with_stack cells s))
unfolding item_act control_act acted worked
zero_goes c to s x cells z =
    as_acted c (with_stack (x ∷ cells) s) _ (going (Some (there to)) cells Keeps)
    (if_is (x.0 == 0) (going (Some (there to)) cells Keeps) (staying cells) (eq-eqb x.0 0 z))

flag_stays : {S : Type 0} (c : Calls S) (to : Place) (s : State S) (x : Cell) (cells : List Cell) → (x.0 ≡ 0 → ⊥)
    → Makes c (item.BranchIfZero to) (with_stack (x ∷ cells) s) (with_stack cells s)
unfolding item_act control_act acted worked
flag_stays c to s x cells z =
    as_acted c (with_stack (x ∷ cells) s) _ (staying cells)
    (if_not (x.0 == 0) (going (Some (there to)) cells Keeps) (staying cells) (other x.0 0 z))

has_room : (i : ReturnItem) (r : List ReturnItem) (cells : List Cell) (to : To) → length r < 256
    → pushing i r cells to ≡ Moves cells (Pushes i) to
has_room i r cells to l =
    let e : nat_lt 256 (length (i ∷ r)) ≡ false = grind arith in
    if_not (nat_lt 256 (length (i ∷ r))) (Fails return_stack_overflow) (Moves cells (Pushes i) to) e

no_room : (i : ReturnItem) (r : List ReturnItem) (cells : List Cell) (to : To) → 256 ≤ length r
    → pushing i r cells to ≡ Fails return_stack_overflow
no_room i r cells to l =
    let e : nat_lt 256 (length (i ∷ r)) ≡ true = grind arith in
    if_is (nat_lt 256 (length (i ∷ r))) (Fails return_stack_overflow) (Moves cells (Pushes i) to) e

begins_loop : {S : Type 0} (c : Calls S) (to : Place) (s : State S) (index limit : Cell) (cells : List Cell)
    (r : List ReturnItem) → length r < 256
    → Makes c (item.Do to) (on (index ∷ limit ∷ cells) r s)
    (on cells (loop_item index limit (exit.Code to.cell) ∷ r) s)
unfolding item_act control_act acted worked
begins_loop c to s index limit cells r l =
    ap (λ x. worked c x (on (index ∷ limit ∷ cells) r s))
    (has_room (loop_item index limit (exit.Code to.cell)) r cells Behind l)

full_loop : {S : Type 0} (c : Calls S) (to : Place) (s : State S) (index limit : Cell) (cells : List Cell)
    → 256 ≤ length s.flow.items
    → Throws c (item.Do to) (with_stack (index ∷ limit ∷ cells) s) return_stack_overflow
unfolding item_act control_act acted worked
full_loop c to s index limit cells l =
    ap (λ x. worked c x (with_stack (index ∷ limit ∷ cells) s))
    (no_room (loop_item index limit (exit.Code to.cell)) s.flow.items cells Behind l)

skips_loop : {S : Type 0} (c : Calls S) (to : Place) (s : State S) (index limit : Cell) (cells : List Cell)
    → index.0 ≡ limit.0
    → Makes c (item.QuestionDo to) (with_stack (index ∷ limit ∷ cells) s) (gone to (with_stack cells s))
unfolding item_act control_act acted worked
skips_loop c to s index limit cells e =
    as_acted c (with_stack (index ∷ limit ∷ cells) s) _ (going (Some (there to)) cells Keeps)
    (if_is (index.0 == limit.0) (going (Some (there to)) cells Keeps)
    (beginning index limit (exit.Code to.cell) cells s.flow.items) (eq-eqb index.0 limit.0 e))

asks_loop : {S : Type 0} (c : Calls S) (to : Place) (s : State S) (index limit : Cell) (cells : List Cell)
    (r : List ReturnItem) → (index.0 ≡ limit.0 → ⊥) → length r < 256
    → Makes c (item.QuestionDo to) (on (index ∷ limit ∷ cells) r s)
    (on cells (loop_item index limit (exit.Code to.cell) ∷ r) s)
unfolding item_act control_act acted worked
asks_loop c to s index limit cells r e l =
    as_acted c (on (index ∷ limit ∷ cells) r s) _ (beginning index limit (exit.Code to.cell) cells r)
    (if_not (index.0 == limit.0) (going (Some (there to)) cells Keeps)
    (beginning index limit (exit.Code to.cell) cells r) (other index.0 limit.0 e))
    ∙ ap (λ x. worked c x (on (index ∷ limit ∷ cells) r s))
    (has_room (loop_item index limit (exit.Code to.cell)) r cells Behind l)

-- what a step of a loop comes to, by whether it passes the limit
stepped_by : Bool → Place → Cell → LoopParameters → List Cell → Act
stepped_by passes to step l cells =
    if passes then Does (Moves cells Drops Behind)
    else going (Some (there to)) cells (Turns (record l { index = plus l.index step }))

loops_by : {S : Type 0} (c : Calls S) (to : Place) (s : State S) (l : LoopParameters) (r : List ReturnItem)
    → item_done c (item.Loop to) (with_items (Loop l ∷ r) s)
    ≡ acted c (stepped_by (passes_limit l.index l.limit one) to one l s.board.stack) (with_items (Loop l ∷ r) s)
unfolding item_act control_act stepped_by
loops_by c to s l r = refl

adds_by : {S : Type 0} (c : Calls S) (to : Place) (s : State S) (l : LoopParameters) (step : Cell) (cells : List Cell)
    (r : List ReturnItem)
    → item_done c (item.PlusLoop to) (on (step ∷ cells) (Loop l ∷ r) s)
    ≡ acted c (stepped_by (passes_limit l.index l.limit step) to step l cells) (on (step ∷ cells) (Loop l ∷ r) s)
unfolding item_act control_act stepped_by
adds_by c to s l step cells r = refl

repeats_at : {S : Type 0} (c : Calls S) (b : Bool) (to : Place) (step : Cell) (l : LoopParameters)
    (before cells : List Cell) (r : List ReturnItem) (s : State S) → b ≡ false
    → acted c (stepped_by b to step l cells) (on before (Loop l ∷ r) s)
    ≡ done (gone to (on cells (Loop (record l { index = plus l.index step }) ∷ r) s))
unfolding stepped_by acted worked
repeats_at c false to step l before cells r s e = refl
repeats_at c true to step l before cells r s e = absurd cc

ends_at : {S : Type 0} (c : Calls S) (b : Bool) (to : Place) (step : Cell) (l : LoopParameters)
    (before cells : List Cell) (r : List ReturnItem) (s : State S) → b ≡ true
    → acted c (stepped_by b to step l cells) (on before (Loop l ∷ r) s) ≡ done (on cells r s)
unfolding stepped_by acted worked
ends_at c true to step l before cells r s e = refl
ends_at c false to step l before cells r s e = absurd cc

leaves_loop : {S : Type 0} (c : Calls S) (to : Place) (s : State S) (l : LoopParameters) (r : List ReturnItem)
    → Makes c (item.Leave to) (with_items (Loop l ∷ r) s) (gone to (with_items r s))
unfolding item_act acted worked
leaves_loop c to s l r = refl

same_goes : {S : Type 0} (c : Calls S) (to : Place) (s : State S) (y x : Cell) (cells : List Cell) → x.0 ≡ y.0
    → Makes c (item.Of to) (with_stack (y ∷ x ∷ cells) s) (with_stack cells s)
unfolding item_act control_act acted worked
same_goes c to s y x cells e =
    as_acted c (with_stack (y ∷ x ∷ cells) s) _ (staying cells)
    (if_is (x.0 == y.0) (staying cells) (going (Some (there to)) (x ∷ cells) Keeps) (eq-eqb x.0 y.0 e))

another_goes : {S : Type 0} (c : Calls S) (to : Place) (s : State S) (y x : Cell) (cells : List Cell)
    → (x.0 ≡ y.0 → ⊥) → Makes c (item.Of to) (with_stack (y ∷ x ∷ cells) s) (gone to (with_stack (x ∷ cells) s))
unfolding item_act control_act acted worked
another_goes c to s y x cells e =
    as_acted c (with_stack (y ∷ x ∷ cells) s) _ (going (Some (there to)) (x ∷ cells) Keeps)
    (if_not (x.0 == y.0) (staying cells) (going (Some (there to)) (x ∷ cells) Keeps) (other x.0 y.0 e))

return_goes : {S : Type 0} (c : Calls S) (to : Continuation) (s : State S) (r : List ReturnItem)
    → Makes c item.Return (with_items (Return to ∷ r) s) (with_next to (with_items r s))
unfolding item_act acted worked
return_goes c to s r = refl

pub items_go : {S : Type 0} → ItemsGo S
items_go = record {
  branch = branch_goes;
  on_zero = zero_goes;
  not_zero = flag_stays;
  begins = begins_loop;
  asks = asks_loop;
  skips = skips_loop;
  repeats = λ c to s l r e. loops_by c to s l r
      ∙ repeats_at c (passes_limit l.index l.limit one) to one l s.board.stack s.board.stack r s e;
  ends = λ c to s l r e. loops_by c to s l r
      ∙ ends_at c (passes_limit l.index l.limit one) to one l s.board.stack s.board.stack r s e;
  repeats_by = λ c to s l step cells r e. adds_by c to s l step cells r
      ∙ repeats_at c (passes_limit l.index l.limit step) to step l (step ∷ cells) cells r s e;
  ends_by = λ c to s l step cells r e. adds_by c to s l step cells r
      ∙ ends_at c (passes_limit l.index l.limit step) to step l (step ∷ cells) cells r s e;
  leaves = leaves_loop;
  same = same_goes;
  another = another_goes;
  arm = arm_goes;
  case = case_stays;
  returned = return_goes;
}

-- ---- what they throw

no_flag : {S : Type 0} (c : Calls S) (to : Place) (s : State S)
    → Throws c (item.BranchIfZero to) (with_stack [] s) stack_underflow
unfolding item_act control_act acted worked
no_flag c to s = refl

no_step : {S : Type 0} (c : Calls S) (to : Place) (s : State S)
    → Throws c (item.PlusLoop to) (with_stack [] s) stack_underflow
unfolding item_act control_act acted worked
no_step c to s = refl

no_case : {S : Type 0} (c : Calls S) (s : State S) → Throws c item.EndCase (with_stack [] s) stack_underflow
unfolding item_act control_act acted worked
no_case c s = refl

no_loop : {S : Type 0} (c : Calls S) (to : Place) (s : State S) → loop_on_top s.flow.items ≡ Err loop_unavailable
    → Throws c (item.Loop to) s loop_unavailable
unfolding item_act control_act acted worked
no_loop c to s e = ap (λ x. acted c (turning (Some (there to)) one s.board.stack x) s) e

no_loop_by : {S : Type 0} (c : Calls S) (to : Place) (s : State S) (step : Cell) (cells : List Cell)
    → loop_on_top s.flow.items ≡ Err loop_unavailable
    → Throws c (item.PlusLoop to) (with_stack (step ∷ cells) s) loop_unavailable
unfolding item_act control_act acted worked
no_loop_by c to s step cells e =
    ap (λ x. acted c (turning (Some (there to)) step cells x) (with_stack (step ∷ cells) s)) e

no_loop_left : {S : Type 0} (c : Calls S) (to : Place) (s : State S) → loop_on_top s.flow.items ≡ Err loop_unavailable
    → Throws c (item.Leave to) s loop_unavailable
unfolding item_act acted worked
no_loop_left c to s e = ap (λ x. acted c (leave_item to s.board.stack x) s) e

no_return : {S : Type 0} (c : Calls S) (s : State S) → return_on_top s.flow.items ≡ Err return_stack_imbalance
    → Throws c item.Return s return_stack_imbalance
unfolding item_act acted worked
no_return c s e = ap (λ x. worked c (returning x s.board.stack) s) e

pub items_throw : {S : Type 0} → ItemsThrow S
items_throw = record {
  no_flag = no_flag;
  no_step = no_step;
  no_case = no_case;
  no_loop = no_loop;
  no_loop_by = no_loop_by;
  no_loop_left = no_loop_left;
  no_return = no_return;
  full = full_loop;
}

-- ---- definitions

pub definitions_run : RunsByStructure → DefinitionsRun
definitions_run law = record {
  points = λ s cell w q qs h. ap (λ x. item_due structured_calls x s) (law.steps s.code cell w q qs h);
}

-- ---- `execute` and `catch`

-- a plan that is carried out
abbrev pub performed : {S : Type 0} → Calls S → Plan → State S → Outcome S
performed c p s = worked c (act_of_plan p (front_of s)) s

-- the plan of a written word
pub behind : {S : Type 0} → PlansUnroll → (xt : ℕ) (s : State S) (k : ℕ) (w : Word)
    → executable s.words s.board xt ≡ Ok k
    → word_with_xt k ≡ Some w → plan_in s xt ≡ planned w (runner_of w) (front_of s) plan_of
behind law xt s k w e f =
    law.unrolled (front_of s) xt
    ∙ ap (λ x. plan_behind x (front_of s) plan_of) e ∙ ap (λ x. plan_at x k (front_of s) plan_of) f

run_is : {S : Type 0} → PlansUnroll → (c : Calls S) (xt : ℕ) (x : Cell) (cells : List Cell) (s : State S)
    → Is (with_stack (x ∷ cells) s) xt (word.Returns returns.Execute) → (b : Bool) → is_word s.words.dictionary x.0 ≡ b
    → executed c xt (with_stack (x ∷ cells) s)
    ≡ performed c (if b then Execute cells (plan_in (with_stack cells s) x.0) else Stops bad_handle)
    (with_stack (x ∷ cells) s)
unfolding execution
run_is law c xt x cells s h b e =
    ap (λ p. performed c p (with_stack (x ∷ cells) s))
    (behind law xt (with_stack (x ∷ cells) s) h.0 (word.Returns returns.Execute) h.1 h.2
    ∙ ap (λ y. if y then Execute cells (plan_in (with_stack cells s) x.0) else Stops bad_handle) e)

catch_is : {S : Type 0} → PlansUnroll → (c : Calls S) (xt : ℕ) (x : Cell) (cells : List Cell) (s : State S)
    → Is (with_stack (x ∷ cells) s) xt (word.Throws throws.Catch) → (b : Bool) → nat_le 256 (length s.flow.items) ≡ b
    → executed c xt (with_stack (x ∷ cells) s)
    ≡ performed c
    (if b then Stops return_stack_overflow else Catch cells (plan_in (guarded cells (with_stack (x ∷ cells) s)) x.0))
    (with_stack (x ∷ cells) s)
unfolding execution
catch_is law c xt x cells s h b e =
    let p = Catch cells (plan_in (guarded cells (with_stack (x ∷ cells) s)) x.0) in
    ap (λ q. performed c q (with_stack (x ∷ cells) s))
    (behind law xt (with_stack (x ∷ cells) s) h.0 (word.Throws throws.Catch) h.1 h.2
    ∙ ap (λ y. if y then Stops return_stack_overflow else p) e)

no_cell : {S : Type 0} → PlansUnroll → (c : Calls S) (xt : ℕ) (s : State S)
    → Is (with_stack [] s) xt (word.Returns returns.Execute)
    → executed c xt (with_stack [] s) ≡ failed stack_underflow (with_stack [] s)
unfolding execution act_of_plan worked
no_cell law c xt s h =
    ap (λ p. performed c p (with_stack [] s))
    (behind law xt (with_stack [] s) h.0 (word.Returns returns.Execute) h.1 h.2)

no_caught : {S : Type 0} → PlansUnroll → (c : Calls S) (xt : ℕ) (s : State S)
    → Is (with_stack [] s) xt (word.Throws throws.Catch)
    → executed c xt (with_stack [] s) ≡ failed stack_underflow (with_stack [] s)
unfolding execution act_of_plan worked
no_caught law c xt s h =
    ap (λ p. performed c p (with_stack [] s))
    (behind law xt (with_stack [] s) h.0 (word.Throws throws.Catch) h.1 h.2)

pub has_item : (n : ℕ) → n < 256 → nat_le 256 n ≡ false
has_item n l = grind arith

pub has_none : (n : ℕ) → 256 ≤ n → nat_le 256 n ≡ true
has_none n l = grind arith

pub catch_keeps : {S : Type 0} → PlansUnroll → CatchKeeps S
unfolding execution act_of_plan worked
catch_keeps law = record {
  runs = λ c xt x cells s h e. run_is law c xt x cells s h true e;
  refuses = λ c xt x cells s h e. run_is law c xt x cells s h false e;
  keeps = λ c xt x cells s h l. (
    frame_of cells s,
    catch_is law c xt x cells s h false (has_item (length s.flow.items) l),
    refl,
    refl,
    refl,
    refl,
  );
  full = λ c xt x cells s h l. catch_is law c xt x cells s h true (has_none (length s.flow.items) l);
  no_execute = no_cell law;
  no_catch = no_caught law;
}

-- ---- the end of an image

source_found : (above rest : List ReturnItem) (r : Reading) → latest_source above ≡ None
    → latest_source (above ++ Source r ∷ rest) ≡ Some r
unfolding latest_source
source_found [] rest r e = refl
source_found (Source x ∷ above) rest r e = absurd cc
source_found (Return x ∷ above) rest r e = source_found above rest r e
source_found (Loop x ∷ above) rest r e = source_found above rest r e
source_found (User x ∷ above) rest r e = source_found above rest r e
source_found (Handler x ∷ above) rest r e = source_found above rest r e
source_found (Caller x ∷ above) rest r e = source_found above rest r e

rest_found : (above rest : List ReturnItem) (r : Reading) → latest_source above ≡ None
    → beneath_source (above ++ Source r ∷ rest) ≡ rest
unfolding latest_source beneath_source
rest_found [] rest r e = refl
rest_found (Source x ∷ above) rest r e = absurd cc
rest_found (Return x ∷ above) rest r e = rest_found above rest r e
rest_found (Loop x ∷ above) rest r e = rest_found above rest r e
rest_found (User x ∷ above) rest r e = rest_found above rest r e
rest_found (Handler x ∷ above) rest r e = rest_found above rest r e
rest_found (Caller x ∷ above) rest r e = rest_found above rest r e

went_back : {S : Type 0} → Option Reading → List ReturnItem → State S → State S
went_back x r s =
    record (reading_on (or_nothing x) s) { flow = going_back r (reading_on (or_nothing x) s).flow }

back_is : {S : Type 0} (c : Calls S) (s : State S) (above beneath : List ReturnItem) (r : Reading) (to : Continuation)
    → s.flow.items ≡ above ++ Source r ∷ Return to ∷ beneath → latest_source above ≡ None → ends_inside s ≡ false
    → ended c s ≡ done (went_back (Some r) (Return to ∷ beneath) s)
unfolding went_back
back_is c s above beneath r to e none b =
    let rest = Return to ∷ beneath in
    let found : latest_source s.flow.items ≡ Some r = ap latest_source e ∙ source_found above rest r none in
    let left : beneath_source s.flow.items ≡ rest = ap beneath_source e ∙ rest_found above rest r none in
    if_not _ _ (done (source_ended s)) b
    ∙ (ap (λ x. done (went_back x (beneath_source s.flow.items) s)) found
    ∙ ap (λ x. done (went_back (Some r) x s)) left)

none_ends : (a b l : Bool) → l ≡ true → (a && b && not l) ≡ false
none_ends false b true e = refl
none_ends true false true e = refl
none_ends true true true e = refl
none_ends a b false e = absurd cc

pub ends_go_back : {S : Type 0} → EndsGoBack S
unfolding went_back
ends_go_back = record {
  back = λ c s above beneath r to e none b.
      let is = back_is c s above beneath r to e none b in (
        ap (λ o. o.ended) is,
        ap (λ o. o.state.flow.items) is,
        ap (λ o. o.state.flow.next) is,
        ap (λ o. o.state.flow.reading) is,
        ap (λ o. o.state.flow.is_running) is,
        ap (λ o. o.state.board.stack) is,
        ap (λ o. o.state.board.pictured) is,
        ap (λ o. o.state.board.console) is,
        ap (λ o. o.state.board.tree) is,
        ap (λ o. o.state.board.active) is,
        ap (λ o. o.state.words) is,
        ap (λ o. o.state.code) is,
      );
  gives_up = λ c s b. if_is (ends_inside s) _ _ b;
  stays_open = λ c s l.
      if_not (ends_inside s) _ _ (none_ends (is_some s.words.defining)
      (not (is_same (open_xt s) s.flow.reading.opened)) (is_line s.flow.reading.input s.flow.items) l);
}

-- ---- an image that begins

abbrev xt_in : ℕ → Cell
xt_in n = record { 0 = xt_of n }

none_opened : (o : Option ℕ)
    → (is_some o && not (is_same (option_map xt_in o) (option_map xt_in o)) && true) ≡ false
none_opened None = refl
none_opened (Some n) = ap (λ b. not b && true) (eq-eqb (xt_of n) (xt_of n) refl)

pub loads_begin : {S : Type 0} → LoadsBegin S
loads_begin = record {
  begun = λ image node instance t m s. (
    refl,
    refl,
    refl,
    refl,
    refl,
    refl,
    refl,
    refl,
    refl,
    refl,
    refl,
    refl,
    refl,
    refl,
    refl,
    refl,
    none_opened s.words.defining,
  );
}
