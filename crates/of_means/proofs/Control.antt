-- The tokens of control at the source are their words' entries.
use Rattle.std.proofs.Common.{◌≡◌, ℕ, ℤ, ◌==◌, Bool, true, false, List, [], ◌∷◌, length, Option, Some, None}
use Rattle.std.proofs.Common.{Result, Ok, Err, refl, ap, ◌∙◌, not, if◌then◌else◌, unwrap_or}
use Rattle.of_cells.specs.declared.cells.Cell.{Cell}
use Rattle.of_cells.specs.Arithmetic.{plus}
use Rattle.of_stacks.specs.declared.throws.Throw.{Throw}
use Rattle.of_stacks.specs.declared.return_item.LoopExit.{LoopExit}
use Rattle.of_stacks.specs.declared.return_item.LoopExit.TheVariants as exit
use Rattle.of_stacks.specs.declared.return_item.LoopParameters.{LoopParameters}
use Rattle.of_stacks.specs.declared.return_item.ReturnItem.{ReturnItem}
use Rattle.of_stacks.specs.declared.return_item.ReturnItem.TheVariants.{Return, Loop, User, Handler, Source, Caller}
use Rattle.of_stacks.specs.Loops.{goes_on, loop_on_top, passes_limit, turned}
use Rattle.of_stacks.specs.Order.{refused_if}
use Rattle.of_stacks.specs.Throws.{return_stack_overflow}
use Rattle.of_stream.specs.Decoding.{Token}
use Rattle.of_stream.specs.Targets.{landing, target_at, within_tokens}
use Rattle.of_tok.specs.declared.place.Place.{Place}
use Rattle.of_flow.specs.declared.control.ControlWord.{ControlWord}
use Rattle.of_flow.specs.declared.control.ControlWord.TheVariants as control
use Rattle.of_flow.specs.declared.token.Token.{Token as Word}
use Rattle.of_flow.specs.declared.token.Token.TheVariants as token
use Rattle.of_flow.specs.Tokens.{Plain, Typed, typed_of}
use Rattle.of_flow.specs.Turns.{Turn, control_entry, entering, loop_item, one, repeated, repeating}
use Rattle.of_flow.specs.Turns as turn
use Rattle.of_eval.specs.Acts.{Act, front_of}
use Rattle.of_eval.specs.Acts as act
use Rattle.of_eval.specs.Doing.{acted, worked}
use Rattle.of_eval.specs.Items.{Position, control_act, going, turning}
use Rattle.of_eval.specs.Reading.{token_done}
use Rattle.of_eval.specs.Registers.{by_turn}
use Rattle.of_eval.specs.Tokens.{at_position, compiling_act, spot_in, token_act}
use Rattle.of_state.specs.State.{Calls, Outcome, State, with_items}
use Rattle.of_means.specs.Means.{at_place, token_at}
use Rattle.of_means.specs.Sources.{AtSource}

-- ---- words of control, whose target is a position

module _ {S : Type 0} (c : Calls S) (n : ℕ) where
  abbrev turned_by : Result Turn Throw → State S → Outcome S
  turned_by x s = by_turn (Some (Position n)) x s

  either : (b : Bool) (p q : Act) (s : State S) (x y : Result Turn Throw)
      → acted c p s ≡ turned_by x s → acted c q s ≡ turned_by y s
      → acted c (if b then p else q) s ≡ turned_by (if b then x else y) s
  either true p q s x y hp hq = hp
  either false p q s x y hp hq = hq

  fails : (t : Throw) (s : State S) → acted c (act.Does (act.Fails t)) s ≡ turned_by (Err t) s
  unfolding acted worked
  fails t s = refl

  went : (cells : List Cell) (s : State S)
      → acted c (going (Some (Position n)) cells act.Keeps) s ≡ turned_by (turn.going true cells s.flow.items) s
  unfolding acted
  went cells s = refl

  stayed : (cells : List Cell) (s : State S)
      → acted c (act.Does (act.Leaves cells)) s ≡ turned_by (turn.staying cells s.flow.items) s
  unfolding acted worked
  stayed cells s = refl

  begun : (b : Bool) (item : ReturnItem) (cells : List Cell) (s : State S)
      → acted c
      (act.Does (if b then act.Fails return_stack_overflow else act.Moves cells (act.Pushes item) act.Behind)) s
      ≡ turned_by (entering cells (refused_if b return_stack_overflow (item ∷ s.flow.items))) s
  unfolding acted worked
  begun true item cells s = refl
  begun false item cells s = refl

  looped : (b : Bool) (l k : LoopParameters) (cells : List Cell) (r : List ReturnItem) (s : State S)
      → acted c
      (if b then act.Does (act.Moves cells act.Drops act.Behind) else going (Some (Position n)) cells (act.Turns k))
      (with_items (Loop l ∷ r) s)
      ≡ turned_by (repeating cells (if b then r else Loop k ∷ r) (repeated true (Ok (not b))))
      (with_items (Loop l ∷ r) s)
  unfolding acted worked
  looped true l k cells r s = refl
  looped false l k cells r s = refl

  turning_is : (step : Cell) (cells : List Cell) (r : List ReturnItem) (s : State S)
      → acted c (turning (Some (Position n)) step cells (loop_on_top r)) (with_items r s)
      ≡ turned_by (repeating cells (turned step r) (repeated true (goes_on step r))) (with_items r s)
  turning_is step cells [] s = fails _ (with_items [] s)
  turning_is step cells (Loop l ∷ r) s =
      looped (passes_limit l.index l.limit step) l (record l { index = plus l.index step }) cells r s
  turning_is step cells (Return x ∷ r) s = fails _ (with_items (Return x ∷ r) s)
  turning_is step cells (User x ∷ r) s = fails _ (with_items (User x ∷ r) s)
  turning_is step cells (Handler x ∷ r) s = fails _ (with_items (Handler x ∷ r) s)
  turning_is step cells (Source x ∷ r) s = fails _ (with_items (Source x ∷ r) s)
  turning_is step cells (Caller x ∷ r) s = fails _ (with_items (Caller x ∷ r) s)

  pub turns : (w : ControlWord) (e : LoopExit) (cells : List Cell) (s : State S)
      → acted c (control_act w (Some (Position n)) e cells s.flow.items) s
      ≡ turned_by (control_entry w true e cells s.flow.items) s
  unfolding control_act control_entry
  turns control.Branch e cells s = went cells s
  turns control.BranchIfZero e [] s = fails _ s
  turns control.BranchIfZero e (x ∷ cells) s = either (x.0 == 0) _ _ s _ _ (went cells s) (stayed cells s)
  turns control.Do e [] s = fails _ s
  turns control.Do e (x ∷ []) s = fails _ s
  turns control.Do e (x ∷ y ∷ cells) s = begun _ (loop_item x y e) cells s
  turns control.QuestionDo e [] s = fails _ s
  turns control.QuestionDo e (x ∷ []) s = fails _ s
  turns control.QuestionDo e (x ∷ y ∷ cells) s =
      either (x.0 == y.0) _ _ s _ _ (went cells s) (begun _ (loop_item x y e) cells s)
  turns control.Loop e cells s = turning_is one cells s.flow.items s
  turns control.PlusLoop e [] s = fails _ s
  turns control.PlusLoop e (x ∷ cells) s = turning_is x cells s.flow.items s
  turns control.Of e [] s = fails _ s
  turns control.Of e (x ∷ []) s = fails _ s
  turns control.Of e (y ∷ x ∷ cells) s = either (x.0 == y.0) _ _ s _ _ (stayed cells s) (went (x ∷ cells) s)
  turns control.EndOf e cells s = went cells s
  turns control.EndCase e [] s = fails _ s
  turns control.EndCase e (x ∷ cells) s = stayed cells s

  -- `endcase` needs no target
  pub ends_case : (e k : LoopExit) (cells : List Cell) (s : State S)
      → acted c (control_act control.EndCase None e cells s.flow.items) s
      ≡ turned_by (control_entry control.EndCase true k cells s.flow.items) s
  unfolding control_act control_entry
  ends_case e k [] s = fails _ s
  ends_case e k (x ∷ cells) s = stayed cells s

-- ---- offsets

module _ (end : ℕ) where
  -- an offset that leads into the image
  in_range : (b : Bool) (n to : ℕ) → (if b then Some n else None) ≡ Some to → n ≡ to
  in_range true n to e = cc
  in_range false n to e = absurd (no e)
    where
      no : None ≡ Some to → ⊥
      no h = cc

  pub target_is : (o : Option ℕ) (to : ℕ) → within_tokens end o ≡ Some to → o ≡ Some to
  target_is None to e = absurd (no e)
    where
      no : None ≡ Some to → ⊥
      no h = cc
  target_is (Some n) to e = ap Some (in_range _ n to e)

-- ---- tokens that are executed

module _ {S : Type 0} (c : Calls S) (image loops : List ℕ) (Keeps : State S → Type 0) where
  acts : (b : Bool) (x y : Act) → b ≡ false → (if b then x else y) ≡ y
  acts true x y e = absurd (no e)
    where
      no : true ≡ false → ⊥
      no h = cc
  acts false x y e = refl

  -- a token at the source does what the table says
  pub executed_at : (t : Token) (w : Word) (p q : Place) (s : State S) → typed_of t ≡ Plain w
      → AtSource image loops Keeps false s
      → token_at c t p q s
      ≡ acted c (token_act w (spot_in s.board.memory p.position q.position) (front_of (at_place q s))) (at_place q s)
  executed_at t w p q s e h =
      let u = at_place q s in
      let here = spot_in s.board.memory p.position q.position in
      ap (λ (x : Typed). token_done c x here u) e
      ∙ ap (λ a. acted c a u)
      (acts s.flow.is_compiling (compiling_act w here (front_of u)) (token_act w here (front_of u)) h.compiles)

  -- a token with an offset that leads into the image
  pub offset_at : (t : Token) (w : ControlWord) (by : ℤ) (p q : Place) (to : ℕ) (s : State S)
      → typed_of t ≡ Plain (token.Control w by) → AtSource image loops Keeps false s
      → landing (length image) p.position by ≡ Some to
      → token_at c t p q s
      ≡ by_turn (Some (Position to)) (control_entry w true (exit.Position to) s.board.stack s.flow.items)
      (at_place q s)
  unfolding token_act
  offset_at t w by p q to s e h l =
      let u = at_place q s in
      executed_at t (token.Control w by) p q s e h
      ∙ ap (λ (m : List ℕ). acted c
      (control_act w (at_position (landing (length m) p.position by))
      (exit.Position (unwrap_or (target_at p.position by) 0)) s.board.stack s.flow.items) u) h.bytes
      ∙ ap (λ (o : Option ℕ). acted c
      (control_act w (at_position o)
      (exit.Position (unwrap_or (target_at p.position by) 0)) s.board.stack s.flow.items) u) l
      ∙ ap (λ (o : Option ℕ). acted c
      (control_act w (Some (Position to)) (exit.Position (unwrap_or o 0)) s.board.stack s.flow.items) u)
      (target_is (length image) (target_at p.position by) to l)
      ∙ turns c to w (exit.Position to) s.board.stack u
