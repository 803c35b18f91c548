-- Behind the end of the source nothing runs.
use Rattle.std.proofs.Common.{◌≡◌, ℕ, ◌==◌, Bool, true, false, List, [], ◌∷◌, Option, Some, None, refl, sym, ap, ◌∙◌}
use Rattle.std.proofs.Common.{subst, is_some, if◌then◌else◌}
use Rattle.std.specs.Prelude.{◌&&◌, not}
use Rattle.of_cells.specs.declared.cells.Cell.{Cell}
use Rattle.of_stacks.specs.declared.return_item.Due.{Due}
use Rattle.of_stacks.specs.declared.return_item.Due.TheVariants as due
use Rattle.of_stacks.specs.declared.return_item.ReturnItem.{ReturnItem}
use Rattle.of_stacks.specs.declared.return_item.ReturnItem.TheVariants.{Return, Loop, User, Handler, Source, Caller}
use Rattle.of_stacks.specs.declared.throws.Throw.{Throw}
use Rattle.of_stacks.specs.Throws.{compiler_nesting, stack_underflow}
use Rattle.of_stacks.specs.Unwinding.{beneath_source, latest_handler, latest_source}
use Rattle.of_source.specs.Items.{bare}
use Rattle.of_tok.specs.declared.place.Place.{Place}
use Rattle.of_flow.specs.declared.control_state.Flow.{Flow}
use Rattle.of_flow.specs.declared.token.Token.TheVariants as token
use Rattle.of_board.specs.Active.{with_self}
use Rattle.of_eval.specs.Doing.{acted}
use Rattle.of_eval.specs.Tokens.{token_act}
use Rattle.of_state.specs.State.{Calls, Outcome, State, done, failed, given_up, open_xt, with_board, with_items}
use Rattle.of_state.specs.Settling.{caller_self, due_left, due_throw, ended, going_back, is_empty, is_line, is_same}
use Rattle.of_state.specs.Settling.{open_answered, or_nothing, reading_on, released_in, settled, source_ended}
use Rattle.of_steps.specs.Steps.{settled_of}
use Rattle.of_eval_laws.specs.Returning.{IsBase, is_return_top}
use Rattle.of_eval_laws.specs.Tokens.{TokensAreTyped}
use Rattle.of_means.specs.Means.{at_place, token_at}
use Rattle.of_means.specs.Sources.{AtSource, IsLevel}
use Rattle.of_means.proofs.Control.{executed_at}

-- a caller brings back no control
answer_runs : {S : Type 0} (ih : Cell) (b : Bool) (cells : List Cell) (s : State S)
    → (if b then released_in ih s else record s { board = record s.board { stack = ih ∷ cells } }).flow.is_running
    ≡ s.flow.is_running
answer_runs ih true cells s = refl
answer_runs ih false cells s = refl

opened_runs : {S : Type 0} (ih : Cell) (cells : List Cell) (s : State S)
    → (open_answered ih cells s).flow.is_running ≡ s.flow.is_running
opened_runs ih [] s = refl
opened_runs ih (x ∷ cells) s = answer_runs ih (x.0 == 0) cells s

left_runs : {S : Type 0} (d : Due) (s : State S) → (due_left d s).flow.is_running ≡ s.flow.is_running
left_runs (due.Load active me instance count) s = refl
left_runs (due.Method me) s = refl
left_runs (due.Open me instance) s = opened_runs instance s.board.stack s
left_runs (due.Close me instance) s = refl

-- and where nothing runs, nothing is thrown for it
none_thrown : {S : Type 0} (d : Due) (s : State S) → s.flow.is_running ≡ false → due_throw d s ≡ None
none_thrown (due.Load active me instance count) s e = refl
none_thrown (due.Method me) s e = refl
none_thrown (due.Open me instance) s e =
    ap (λ (b : Bool). if b && is_empty s.board.stack then Some stack_underflow else None) e
none_thrown (due.Close me instance) s e = refl

rests_off : {S : Type 0} (c : Calls S) (r : List ReturnItem) (s : State S) → latest_handler r ≡ None
    → s.flow.is_running ≡ false → (settled c r None s).flow.is_running ≡ false
unfolding settled latest_handler
rests_off c [] s h e = e
rests_off c (Handler f ∷ r) s h e = absurd (no h)
  where
    no : Some f ≡ None → ⊥
    no g = cc
rests_off c (Caller d ∷ r) s h e =
    let w = with_board (with_self (with_items r s).board (caller_self d)) (with_items r s) in
    ap (λ (t : Option Throw). (settled c r t (due_left d w)).flow.is_running) (none_thrown d s e)
    ∙ rests_off c r (due_left d w) h (left_runs d w ∙ e)
rests_off c (Return to ∷ r) s h e = e
rests_off c (Loop l ∷ r) s h e = e
rests_off c (User x ∷ r) s h e = e
rests_off c (Source x ∷ r) s h e = e

-- nothing goes on where no return is on top
back_off : (r : List ReturnItem) (f : Flow) → is_return_top r ≡ false
    → ((going_back r f).is_running ≡ false) × ((going_back r f).items ≡ r)
back_off [] f e = (refl, refl)
back_off (Return to ∷ r) f e = absurd (no e)
  where
    no : true ≡ false → ⊥
    no h = cc
back_off (Loop l ∷ r) f e = (refl, refl)
back_off (User x ∷ r) f e = (refl, refl)
back_off (Handler x ∷ r) f e = (refl, refl)
back_off (Source x ∷ r) f e = (refl, refl)
back_off (Caller x ∷ r) f e = (refl, refl)

-- beneath the source stands its base
base_beneath : (image : List ℕ) (r : List ReturnItem) → IsLevel image r → IsBase (beneath_source r)
unfolding beneath_source
base_beneath image [] h = absurd h
base_beneath image (Loop l ∷ r) h = base_beneath image r h.1
base_beneath image (User x ∷ r) h = base_beneath image r h
base_beneath image (Source s ∷ r) h = h.1
base_beneath image (Return to ∷ r) h = absurd h
base_beneath image (Handler f ∷ r) h = absurd h
base_beneath image (Caller d ∷ r) h = absurd h

module _ {S : Type 0} (c : Calls S) (image loops : List ℕ) (Keeps : State S → Type 0) (typed : TokensAreTyped) where
  ended_off : (u : State S) → IsLevel image u.flow.items
      → (settled_of c (done (source_ended u))).flow.is_running ≡ false
  ended_off u level =
      let base = base_beneath image u.flow.items level in
      let o = reading_on (or_nothing (latest_source u.flow.items)) u in
      let g = back_off (beneath_source u.flow.items) o.flow base.1 in
      subst (λ (r : List ReturnItem). (settled c r None (source_ended u)).flow.is_running ≡ false) (sym g.1)
      (rests_off c (beneath_source u.flow.items) (source_ended u) base.0 g.0)

  shut : (o : Option ℕ) (same line : Bool) → is_some o ≡ false → (is_some o && not same && not line) ≡ false
  shut None same line e = refl
  shut (Some n) same line e = absurd (no e)
    where
      no : true ≡ false → ⊥
      no h = cc

  -- no definition is open at the source
  end_is : (u : State S) → is_some u.words.defining ≡ false → ended c u ≡ done (source_ended u)
  end_is u e =
      ap (λ (b : Bool). if b then failed compiler_nesting (given_up c u) else done (source_ended u))
      (shut u.words.defining (is_same (open_xt u) u.flow.reading.opened) (is_line u.flow.reading.input u.flow.items) e)

  -- `end0` of the source
  pub end_does : (p q : Place) (s : State S) → AtSource image loops Keeps false s
      → token_at c (bare 0x000) p q s ≡ done (source_ended (at_place q s))
  unfolding token_act acted
  end_does p q s h =
      executed_at c image loops Keeps (bare 0x000) token.End p q s typed.end0 h ∙ end_is (at_place q s) h.defines

  pub end_stops : (p q : Place) (s : State S) → AtSource image loops Keeps false s
      → (settled_of c (token_at c (bare 0x000) p q s)).flow.is_running ≡ false
  end_stops p q s h =
      ap (λ (o : Outcome S). (settled_of c o).flow.is_running) (end_does p q s h) ∙ ended_off (at_place q s) h.level
