-- One walk of the tables of items and tokens: what each comes to is what a law asks of it, by the rules of the law.
use Rattle.std.proofs.Common.{◌≡◌, ◌==◌, ℕ, Bool, true, false, List, [], ◌∷◌, Option, Some, None, Result, Ok, Err}
use Rattle.std.proofs.Common.{inr, refl, ap, subst, if◌then◌else◌}
use Rattle.std.specs.Prelude.{not, ◌&&◌}
use Rattle.of_cells.specs.declared.cells.Cell.{Cell}
use Rattle.of_cells.specs.Arithmetic.{plus}
use Rattle.of_code.specs.declared.item.Item.{Item}
use Rattle.of_code.specs.declared.item.Item.TheVariants as item
use Rattle.of_code.specs.declared.item.Place.{Place}
use Rattle.of_code.specs.Items.{target_of}
use Rattle.of_stacks.specs.declared.return_item.Continuation.{Continuation}
use Rattle.of_stacks.specs.declared.return_item.Continuation.TheVariants as continuation
use Rattle.of_stacks.specs.declared.return_item.LoopExit.{LoopExit}
use Rattle.of_stacks.specs.declared.return_item.LoopExit.TheVariants as exit
use Rattle.of_stacks.specs.declared.return_item.LoopParameters.{LoopParameters}
use Rattle.of_stacks.specs.declared.return_item.ReturnItem.{ReturnItem}
use Rattle.of_stacks.specs.declared.return_item.ReturnItem.TheVariants.{Loop}
use Rattle.of_stacks.specs.declared.throws.Throw.{Throw}
use Rattle.of_stacks.specs.Loops.{loop_on_top, passes_limit}
use Rattle.of_stacks.specs.Returns.{return_on_top}
use Rattle.of_stacks.specs.Throws.{ThrowsListed, is_listed, listed_numbers}
use Rattle.of_fcodes.specs.declared.codes.FCode.{FCode}
use Rattle.of_fcodes.specs.declared.token_table.TokenEntry.{TokenEntry}
use Rattle.of_fcodes.specs.Tokens.{entry_in}
use Rattle.of_stream.specs.Targets.{landing, within_tokens}
use Rattle.of_compile.specs.Words.{is_debugging, is_word, numbered}
use Rattle.of_flow.specs.declared.control.ControlWord.{ControlWord}
use Rattle.of_flow.specs.declared.control.ControlWord.TheVariants as control
use Rattle.of_flow.specs.declared.token.Token.{Token}
use Rattle.of_flow.specs.declared.token.Token.TheVariants as token
use Rattle.of_eval.specs.declared.tokens.Spot.{Spot}
use Rattle.of_eval.specs.Acts.{Act, Move, WordAct, front_of, knowing_under, leaving}
use Rattle.of_eval.specs.Acts as act
use Rattle.of_eval.specs.Executing.{Plan, plan_in}
use Rattle.of_eval.specs.Items.{Position, Target, There, beginning, control_act, control_item, going, item_act}
use Rattle.of_eval.specs.Items.{leave_item, there, turning}
use Rattle.of_flow.specs.Turns.{loop_item, one}
use Rattle.of_state.specs.State.{State}
use Rattle.of_eval.specs.Tokens.{act_of, at_position, calling, compiling_act, exit_at, exit_in}
use Rattle.of_flow.specs.Tokens.{Typed}
use Rattle.of_eval.specs.Tokens.{leave_act, named, plain_act, storing, string_address, token_act}
use Rattle.of_flow.specs.Tokens as typed
use Rattle.of_eval_laws.specs.Listed.{plan_named, plan_of_item}
use Rattle.of_eval_laws.proofs.ListedFaults.{loop_listed, numbered_listed, return_listed, within_listed}
use Rattle.of_eval_laws.proofs.WalkWords.{AimsAt, Executes, Fits, IsMove, IsTurn, IsWork, Rules, if_works}
use Rattle.of_eval_laws.proofs.WalkWords.{knowing_under_works, leaving_works, pushed_works, pushing_works}
use Rattle.of_eval_laws.proofs.WalkWords.{returning_works, store_works}

-- What a law asks of acts of control and of tokens, beside what it asks of those of words.
pub record Turns {S : Type 0} (R : Rules S) : Type 1 where
  -- of the exit of a loop
  pub Exit : State S → LoopExit → Type 0
  -- where an image is read on at a position, where what is read is ended, where a word is made, and where a definition
  -- is ended
  pub Positions : Type 0
  pub Ends : Type 0
  pub Makes : Type 0
  pub Closes : Type 0
  -- what is so of a state in which no word is executed yet
  pub Stands : State S → Type 0
  pub held : (s : State S) → Stands s → R.Held s
  -- any item on top may be dropped
  pub drop : (s : State S) → R.Held s → R.Drops s
  -- a loop may be pushed by its exit, which is that of the loop on top, or a position
  pub loop : (l : LoopParameters) (s : State S) → Exit s l.exit → R.Item s (Loop l)
  pub exit_on_top :
      (l : LoopParameters) (s : State S) → Stands s → loop_on_top s.flow.items ≡ Ok l → Exit s l.exit
  pub exit_at : (n : ℕ) (s : State S) → Stands s → Exit s (exit.Position n)
  -- control goes on at an exit in the code, and each place where it goes on may be one
  pub exit_goes : (n : ℕ) (s : State S) → Exit s (exit.Code n) → R.Aims s n
  pub goes_exit : (n : ℕ) (s : State S) → Stands s → R.Aims s n → Exit s (exit.Code n)

abbrev pub IsAct : {S : Type 0} (R : Rules S) → Turns R → State S → Act → Type 0
IsAct R T s (act.Does a) = IsWork R s a
IsAct R T s (act.Goes cells move n) = T.Positions × IsMove R s move × IsTurn move s.flow.items
IsAct R T s (act.Copies a n) = R.Appends s
IsAct R T s (act.Makes d) = T.Makes
IsAct R T s act.Closes = T.Closes
IsAct R T s act.Ends = T.Ends

abbrev pub IsTarget : {S : Type 0} (R : Rules S) → Turns R → State S → Option Target → Type 0
IsTarget R T s None = Unit {0}
IsTarget R T s (Some (There to)) = AimsAt R s to
IsTarget R T s (Some (Position n)) = T.Positions

pub if_acts : {S : Type 0} (R : Rules S) (T : Turns R) (b : Bool) (x y : Act) (s : State S)
    → (b ≡ true → IsAct R T s x) → (b ≡ false → IsAct R T s y) → IsAct R T s (if b then x else y)
if_acts R T true x y s p q = p refl
if_acts R T false x y s p q = q refl

-- ---- words of control

turn_fits : {S : Type 0} (R : Rules S) (m : Move) (to : Continuation) (s : State S) → AimsAt R s to
    → IsTurn m s.flow.items → Fits R s m (act.Next to)
turn_fits R act.Keeps to s a t = (a, t)
turn_fits R (act.Pushes item) to s a t = absurd t
turn_fits R act.Drops to s a t = inr (a, t)
turn_fits R (act.Turns l) to s a t = (a, t)

aims_to : {S : Type 0} (R : Rules S) (to : Continuation) (s : State S) → AimsAt R s to → R.Target s to
aims_to R continuation.Source s a = absurd a
aims_to R (continuation.Code n) s a = R.aims n s a

going_acts : {S : Type 0} (R : Rules S) (T : Turns R) (to : Option Target) (cells : List Cell) (m : Move) (s : State S)
    → IsTarget R T s to → IsMove R s m → IsTurn m s.flow.items → IsAct R T s (going to cells m)
unfolding is_listed listed_numbers
going_acts R T None cells m s t h f = R.fails _ refl
going_acts R T (Some (There to)) cells m s t h f = (h, aims_to R to s t, turn_fits R m to s t f)
going_acts R T (Some (Position n)) cells m s t h f = (t, h, f)

turning_acts : {S : Type 0} (R : Rules S) (T : Turns R) (to : Option Target) (step : Cell) (cells : List Cell)
    (r : Result LoopParameters Throw) (s : State S) → IsTarget R T s to → T.Stands s → loop_on_top s.flow.items ≡ r
    → ThrowsListed r → IsAct R T s (turning to step cells r)
turning_acts R T to step cells (Err t) s h p e l = R.fails t l
turning_acts R T to step cells (Ok l) s h p e i =
    let d = T.drop s (T.held s p) in
    if_acts R T (passes_limit l.index l.limit step) _ _ s (λ z. (d, tt, inr (l, e)))
    (λ z. going_acts R T to cells _ s h
    (T.loop (record l { index = plus l.index step }) s (T.exit_on_top l s p e), d) (l, e))

begins_acts : {S : Type 0} (R : Rules S) (T : Turns R) (index limit : Cell) (e : LoopExit) (cells : List Cell)
    (s : State S) → T.Exit s e → IsAct R T s (beginning index limit e cells s.flow.items)
begins_acts R T index limit e cells s x =
    pushing_works R (loop_item index limit e) s.flow.items cells act.Behind s
    (T.loop (record { index = index; limit = limit; exit = e }) s x) tt tt

control_acts : {S : Type 0} (R : Rules S) (T : Turns R) (w : ControlWord) (to : Option Target) (e : LoopExit)
    (cells : List Cell) (s : State S) → IsTarget R T s to → T.Exit s e → T.Stands s
    → IsAct R T s (control_act w to e cells s.flow.items)
unfolding control_act is_listed listed_numbers
control_acts R T control.Branch to e cells s h x p = going_acts R T to cells act.Keeps s h tt tt
control_acts R T control.BranchIfZero to e [] s h x p = R.fails _ refl
control_acts R T control.BranchIfZero to e (a ∷ cells) s h x p =
    if_acts R T (a.0 == 0) _ _ s (λ z. going_acts R T to cells act.Keeps s h tt tt) (λ z. tt)
control_acts R T control.Do to e [] s h x p = R.fails _ refl
control_acts R T control.Do to e (a ∷ []) s h x p = R.fails _ refl
control_acts R T control.Do to e (a ∷ b ∷ cells) s h x p = begins_acts R T a b e cells s x
control_acts R T control.QuestionDo to e [] s h x p = R.fails _ refl
control_acts R T control.QuestionDo to e (a ∷ []) s h x p = R.fails _ refl
control_acts R T control.QuestionDo to e (a ∷ b ∷ cells) s h x p =
    if_acts R T (a.0 == b.0) _ _ s (λ z. going_acts R T to cells act.Keeps s h tt tt)
    (λ z. begins_acts R T a b e cells s x)
control_acts R T control.Loop to e cells s h x p =
    turning_acts R T to one cells (loop_on_top s.flow.items) s h p refl (loop_listed s.flow.items)
control_acts R T control.PlusLoop to e [] s h x p = R.fails _ refl
control_acts R T control.PlusLoop to e (a ∷ cells) s h x p =
    turning_acts R T to a cells (loop_on_top s.flow.items) s h p refl (loop_listed s.flow.items)
control_acts R T control.Of to e [] s h x p = R.fails _ refl
control_acts R T control.Of to e (a ∷ []) s h x p = R.fails _ refl
control_acts R T control.Of to e (a ∷ b ∷ cells) s h x p =
    if_acts R T (b.0 == a.0) _ _ s (λ z. tt) (λ z. going_acts R T to (b ∷ cells) act.Keeps s h tt tt)
control_acts R T control.EndOf to e cells s h x p = going_acts R T to cells act.Keeps s h tt tt
control_acts R T control.EndCase to e [] s h x p = R.fails _ refl
control_acts R T control.EndCase to e (a ∷ cells) s h x p = tt

-- `endcase` goes nowhere
case_acts : {S : Type 0} (R : Rules S) (T : Turns R) (cells : List Cell) (to : Option Target) (e : LoopExit)
    (r : List ReturnItem) (s : State S) → IsAct R T s (control_act control.EndCase to e cells r)
unfolding control_act is_listed listed_numbers
case_acts R T [] to e r s = R.fails _ refl
case_acts R T (x ∷ cells) to e r s = tt

-- ---- items

jump_acts : {S : Type 0} (R : Rules S) (T : Turns R) (w : ControlWord) (to : Place) (s : State S)
    → R.Aims s to.cell → T.Stands s → IsAct R T s (control_item w to (front_of s))
jump_acts R T w to s l p =
    control_acts R T w (Some (there to)) (exit.Code to.cell) s.board.stack s l (T.goes_exit to.cell s p l) p

leave_item_acts : {S : Type 0} (R : Rules S) (T : Turns R) (to : Place) (cells : List Cell)
    (r : Result LoopParameters Throw) (s : State S) → R.Aims s to.cell → R.Drops s → loop_on_top s.flow.items ≡ r
    → ThrowsListed r → IsAct R T s (leave_item to cells r)
leave_item_acts R T to cells (Ok l) s h d e i = (d, R.aims to.cell s h, inr (h, (l, e)))
leave_item_acts R T to cells (Err t) s h d e i = R.fails t i

-- the target of an item, if it has one
abbrev pub IsPlace : {S : Type 0} → Rules S → State S → Option Place → Type 0
IsPlace R s None = Unit {0}
IsPlace R s (Some to) = R.Aims s to.cell

pub item_acts : {S : Type 0} (R : Rules S) (T : Turns R) (i : Item) (s : State S) → IsPlace R s (target_of i)
    → T.Stands s → Executes R (plan_of_item i (plan_in s)) s → IsAct R T s (item_act i (front_of s))
unfolding item_act
item_acts R T (item.Operation xt) s l p h = h xt.0 refl
item_acts R T (item.Call xt) s l p h = h xt.0 refl
item_acts R T (item.Literal x) s l p h = pushed_works R x s.board.stack s
item_acts R T (item.String a n) s l p h = leaving_works R _ s (within_listed (n ∷ a ∷ s.board.stack))
item_acts R T (item.Store xt) s l p h = store_works R xt.0 s (T.held s p)
item_acts R T (item.Leave to) s l p h =
    leave_item_acts R T to s.board.stack (loop_on_top s.flow.items) s l (T.drop s (T.held s p)) refl
    (loop_listed s.flow.items)
item_acts R T item.EndCase s l p h = case_acts R T s.board.stack _ _ _ s
item_acts R T item.Return s l p h =
    let q = T.held s p in
    returning_works R (return_on_top s.flow.items) s.board.stack s q (T.drop s q) refl (return_listed s.flow.items)
item_acts R T (item.Branch to) s l p h = jump_acts R T control.Branch to s l p
item_acts R T (item.BranchIfZero to) s l p h = jump_acts R T control.BranchIfZero to s l p
item_acts R T (item.Do to) s l p h = jump_acts R T control.Do to s l p
item_acts R T (item.QuestionDo to) s l p h = jump_acts R T control.QuestionDo to s l p
item_acts R T (item.Loop to) s l p h = jump_acts R T control.Loop to s l p
item_acts R T (item.PlusLoop to) s l p h = jump_acts R T control.PlusLoop to s l p
item_acts R T (item.Of to) s l p h = jump_acts R T control.Of to s l p
item_acts R T (item.EndOf to) s l p h = jump_acts R T control.EndOf to s l p

-- ---- tokens that act

position_target : {S : Type 0} (R : Rules S) (T : Turns R) (n : Option ℕ) (s : State S) → T.Positions
    → IsTarget R T s (at_position n)
position_target R T None s q = tt
position_target R T (Some n) s q = q

exit_target : {S : Type 0} (R : Rules S) (T : Turns R) (size : ℕ) (e : LoopExit) (s : State S) → T.Positions
    → T.Exit s e → IsTarget R T s (exit_in size e)
exit_target R T size (exit.Position n) s q x = position_target R T (within_tokens size (Some n)) s q
exit_target R T size (exit.Code n) s q x = T.exit_goes n s x

leave_acts : {S : Type 0} (R : Rules S) (T : Turns R) (size : ℕ) (cells : List Cell) (r : Result LoopParameters Throw)
    (s : State S) → T.Positions → T.Stands s → loop_on_top s.flow.items ≡ r → ThrowsListed r
    → IsAct R T s (leave_act size cells r)
leave_acts R T size cells (Ok l) s q p e i =
    going_acts R T (exit_in size l.exit) cells act.Drops s (exit_target R T size l.exit s q (T.exit_on_top l s p e))
    (T.drop s (T.held s p)) (l, e)
leave_acts R T size cells (Err t) s q p e i = R.fails t i

numbered_works : {S : Type 0} (R : Rules S) (k : FCode) (name : Option (List ℕ)) (s : State S) → R.Held s
    → IsWork R s (knowing_under (numbered k name s.words) s.board.stack)
numbered_works R k name s p =
    knowing_under_works R (numbered k name s.words) s.board.stack s (numbered_listed k name s.words)
    (λ w e. R.announces k name w s p e)

named_works : {S : Type 0} (R : Rules S) (e : Option TokenEntry) (a : ℕ → WordAct) (s : State S)
    → ((x : TokenEntry) → e ≡ Some x → IsWork R s (a x.xt)) → IsWork R s (named e a)
unfolding is_listed listed_numbers
named_works R None a s h = R.fails _ refl
named_works R (Some e) a s h = h e refl

storing_works : {S : Type 0} (R : Rules S) (e : Option TokenEntry) (cells : List Cell) (s : State S) → R.Held s
    → IsWork R s (storing e cells (front_of s))
unfolding is_listed listed_numbers
storing_works R None [] s p = R.fails _ refl
storing_works R None (x ∷ cells) s p = R.fails _ refl
storing_works R (Some e) cells s p = store_works R e.xt s p

-- the plan of an FCode that names a word, if that is executed
abbrev pub plan_plain : Token → List (Option TokenEntry) → Bool → (ℕ → Plan) → Option Plan
plan_plain (token.Word k) table compiling plans = plan_named (entry_in table k.0) compiling plans
plan_plain t table compiling plans = None

abbrev pub is_end : Token → Bool
is_end token.End = true
is_end t = false

abbrev pub is_making : Token → Bool
is_making (token.Define d) = true
is_making t = false

abbrev pub is_closing : Token → Bool
is_closing token.Semicolon = true
is_closing t = false

-- what may be done by a token
pub record MayDo {S : Type 0} (R : Rules S) (T : Turns R) (t : Token) (compiling : Bool) (s : State S) : Type 0 where
  pub positions : T.Positions
  pub ends : is_end t ≡ true → T.Ends
  pub makes : is_making t ≡ true → T.Makes
  pub closes : is_closing t ≡ true → T.Closes
  pub appends : compiling ≡ true → R.Appends s
  pub executes : Executes R (plan_plain t s.words.table compiling (plan_in s)) s

pub token_acts : {S : Type 0} (R : Rules S) (T : Turns R) (t : Token) (here : Spot) (s : State S) → T.Stands s
    → MayDo R T t false s → IsAct R T s (token_act t here (front_of s))
unfolding token_act is_listed listed_numbers
token_acts R T (token.Literal x) here s p m = pushed_works R x s.board.stack s
token_acts R T (token.Tick k) here s p m =
    named_works R (entry_in s.words.table k.0) _ s (λ e i. pushed_works R (record { 0 = e.xt }) s.board.stack s)
token_acts R T (token.To k) here s p m =
    storing_works R (entry_in s.words.table k.0) s.board.stack s (T.held s p)
token_acts R T (token.String n) here s p m =
    leaving_works R _ s
    (within_listed (record { 0 = n } ∷ record { 0 = string_address here n } ∷ s.board.stack))
token_acts R T (token.Control w by) here s p m =
    control_acts R T w (at_position (landing here.size here.position by)) (exit_at here.position by) s.board.stack s
    (position_target R T (landing here.size here.position by) s m.positions) (T.exit_at _ s p) p
token_acts R T token.Leave here s p m =
    leave_acts R T here.size s.board.stack (loop_on_top s.flow.items) s m.positions p refl (loop_listed s.flow.items)
token_acts R T token.EndCase here s p m = case_acts R T s.board.stack _ _ _ s
token_acts R T (token.NewToken k) here s p m = numbered_works R k None s (T.held s p)
token_acts R T (token.Define d) here s p m = m.makes refl
token_acts R T token.Semicolon here s p m = m.closes refl
token_acts R T token.End here s p m = m.ends refl
token_acts R T (token.Word k) here s p m =
    named_works R (entry_in s.words.table k.0) _ s
    (λ e i. m.executes e.xt (ap (λ o. plan_named o false (plan_in s)) i))
token_acts R T token.Stray here s p m = R.fails _ refl
token_acts R T t here s p m = tt

-- ---- tokens that are compiled

calling_works : {S : Type 0} (R : Rules S) (e : Option TokenEntry) (s : State S) → R.Appends s
    → Executes R (plan_named e true (plan_in s)) s → IsWork R s (calling e (front_of s))
unfolding is_listed listed_numbers
calling_works R None s o h = R.fails _ refl
calling_works R (Some e) s o h =
    if_works R e.immediate _ _ s
    (λ z. h e.xt (ap (λ i. if true && not i then None else Some (plan_in s e.xt)) z))
    (λ z. if_works R (is_word s.words.dictionary e.xt) _ _ s (λ y. o) (λ y. R.fails _ refl))

compiling_acts : {S : Type 0} (R : Rules S) (T : Turns R) (t : Token) (here : Spot) (s : State S) → R.Appends s
    → T.Stands s → MayDo R T t true s → IsAct R T s (compiling_act t here (front_of s))
unfolding compiling_act
compiling_acts R T (token.Literal x) here s o p m = o
compiling_acts R T (token.Tick k) here s o p m = named_works R (entry_in s.words.table k.0) _ s (λ e i. o)
compiling_acts R T (token.To k) here s o p m = named_works R (entry_in s.words.table k.0) _ s (λ e i. o)
compiling_acts R T (token.String n) here s o p m = o
compiling_acts R T (token.Control w by) here s o p m = o
compiling_acts R T token.Leave here s o p m = o
compiling_acts R T token.Case here s o p m = o
compiling_acts R T token.EndCase here s o p m = o
compiling_acts R T token.Mark here s o p m = o
compiling_acts R T token.Resolve here s o p m = o
compiling_acts R T (token.Word k) here s o p m = calling_works R (entry_in s.words.table k.0) s o m.executes
compiling_acts R T t here s o p m =
    token_acts R T t here s p
    (record {
      positions = m.positions;
      ends = m.ends;
      makes = m.makes;
      closes = m.closes;
      appends = λ e. o;
      executes = m.executes;
    })

-- ---- all tokens

plain_acts : {S : Type 0} (R : Rules S) (T : Turns R) (t : Token) (here : Spot) (s : State S) → T.Stands s
    → MayDo R T t s.flow.is_compiling s → IsAct R T s (plain_act t here (front_of s))
plain_acts R T t here s p m =
    if_acts R T s.flow.is_compiling (compiling_act t here (front_of s)) (token_act t here (front_of s)) s
    (λ e. compiling_acts R T t here s (m.appends e) p (subst (λ b. MayDo R T t b s) e m))
    (λ e. token_acts R T t here s p (subst (λ b. MayDo R T t b s) e m))

abbrev pub TypedMayDo : {S : Type 0} (R : Rules S) → Turns R → Typed → Bool → State S → Type 0
TypedMayDo R T (typed.Plain t) compiling s = MayDo R T t compiling s
TypedMayDo R T (typed.NamedToken name k) compiling s = Unit {0}
TypedMayDo R T (typed.ExternalToken name k) compiling s = Unit {0}

pub typed_acts : {S : Type 0} (R : Rules S) (T : Turns R) (t : Typed) (here : Spot) (s : State S) → T.Stands s
    → TypedMayDo R T t s.flow.is_compiling s → IsAct R T s (act_of t here (front_of s))
typed_acts R T (typed.Plain t) here s p m = plain_acts R T t here s p m
typed_acts R T (typed.NamedToken name k) here s p m =
    numbered_works R k (if is_debugging s.board.memory then Some name else None) s (T.held s p)
typed_acts R T (typed.ExternalToken name k) here s p m = numbered_works R k (Some name) s (T.held s p)
