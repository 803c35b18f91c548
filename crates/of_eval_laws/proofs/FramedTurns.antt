-- The law `frames_hold`: the target of a word of control counts only where control goes there.
use Rattle.std.proofs.Common.{◌≡◌, ◌==◌, nat_lt, Bool, true, false, List, [], ◌∷◌, length, Option, Some, None, Result}
use Rattle.std.proofs.Common.{Ok, Err, refl, ap, sym, ◌∙◌, if◌then◌else◌}
use Rattle.of_cells.specs.declared.cells.Cell.{Cell}
use Rattle.of_cells.specs.Arithmetic.{plus}
use Rattle.of_stacks.specs.declared.return_item.LoopExit.{LoopExit}
use Rattle.of_stacks.specs.declared.return_item.LoopParameters.{LoopParameters}
use Rattle.of_stacks.specs.declared.return_item.ReturnItem.{ReturnItem}
use Rattle.of_stacks.specs.declared.throws.Throw.{Throw}
use Rattle.of_stacks.specs.Loops.{loop_on_top, passes_limit}
use Rattle.of_stacks.specs.Throws.{image_ended, return_stack_overflow}
use Rattle.of_flow.specs.declared.control.ControlWord.{ControlWord}
use Rattle.of_flow.specs.declared.control.ControlWord.TheVariants as control
use Rattle.of_eval.specs.Acts.{Act, Behind, Does, Drops, Fails, Goes, Keeps, Leaves, Move, Moves, Next, Pushes, Turns}
use Rattle.of_eval.specs.Items.{Position, Target, There, control_act, going, turning}
use Rattle.of_flow.specs.Turns.{loop_item, one}
use Rattle.of_eval_laws.specs.Frames.{thrown_by, without_target}

-- an act whose target isn't in the image, by that whose target is
abbrev Counts : Act → Act → Type 0
Counts a b = a ≡ without_target b

either : (b : Bool) (x y u v : Act) → Counts x u → Counts y v → Counts (if b then x else y) (if b then u else v)
either true x y u v p q = p
either false x y u v p q = q

goes : (to : Target) (s : List Cell) (m : Move) → Counts (going None s m) (going (Some to) s m)
goes (There to) s m = refl
goes (Position n) s m = refl

begins : (b : Bool) (i : ReturnItem) (s : List Cell)
    → Counts (Does (if b then Fails return_stack_overflow else Moves s (Pushes i) Behind))
    (Does (if b then Fails return_stack_overflow else Moves s (Pushes i) Behind))
begins true i s = refl
begins false i s = refl

turns : (to : Target) (step : Cell) (s : List Cell) (l : Result LoopParameters Throw)
    → Counts (turning None step s l) (turning (Some to) step s l)
turns to step s (Err t) = refl
turns to step s (Ok l) =
    either (passes_limit l.index l.limit step) _ _ (Does (Moves s Drops Behind)) _ refl
    (goes to s (Turns (record l { index = plus l.index step })))

pub targets_count_last : (w : ControlWord) (to : Target) (e : LoopExit) (s : List Cell) (r : List ReturnItem)
    → control_act w None e s r ≡ without_target (control_act w (Some to) e s r)
unfolding control_act
targets_count_last control.Branch to e s r = goes to s Keeps
targets_count_last control.BranchIfZero to e [] r = refl
targets_count_last control.BranchIfZero to e (a ∷ s) r =
    either (a.0 == 0) _ _ _ (Does (Leaves s)) (goes to s Keeps) refl
targets_count_last control.Do to e [] r = refl
targets_count_last control.Do to e (a ∷ []) r = refl
targets_count_last control.Do to e (a ∷ b ∷ s) r = begins _ (loop_item a b e) s
targets_count_last control.QuestionDo to e [] r = refl
targets_count_last control.QuestionDo to e (a ∷ []) r = refl
targets_count_last control.QuestionDo to e (a ∷ b ∷ s) r =
    let i = loop_item a b e in
    either (a.0 == b.0) _ _ _ _ (goes to s Keeps) (begins (nat_lt 256 (length (i ∷ r))) i s)
targets_count_last control.Loop to e s r = turns to one s (loop_on_top r)
targets_count_last control.PlusLoop to e [] r = refl
targets_count_last control.PlusLoop to e (a ∷ s) r = turns to a s (loop_on_top r)
targets_count_last control.Of to e [] r = refl
targets_count_last control.Of to e (a ∷ []) r = refl
targets_count_last control.Of to e (a ∷ b ∷ s) r =
    either (b.0 == a.0) _ _ (Does (Leaves s)) _ refl (goes to (b ∷ s) Keeps)
targets_count_last control.EndOf to e s r = goes to s Keeps
targets_count_last control.EndCase to e [] r = refl
targets_count_last control.EndCase to e (a ∷ s) r = refl

-- ---- what follows

left_of : (x : Act) → thrown_by (without_target x) ≡ None → x ≡ without_target x
left_of (Goes s m n) e = absurd cc
left_of (Does (Moves s m (Next to))) e = absurd cc
left_of x e = refl

pub targets_left :
    (w : ControlWord) (to : Option Target) (e : LoopExit) (s : List Cell) (r : List ReturnItem) (a : Act)
    → control_act w None e s r ≡ a → thrown_by a ≡ None → control_act w to e s r ≡ a
targets_left w None e s r a h none = h
targets_left w (Some to) e s r a h none =
    let same = targets_count_last w to e s r in
    left_of (control_act w (Some to) e s r) (ap thrown_by (sym same ∙ h) ∙ none) ∙ (sym same ∙ h)

thrown_of : (x : Act) (t : Throw) → (t ≡ image_ended → ⊥) → without_target x ≡ Does (Fails t) → x ≡ Does (Fails t)
thrown_of (Goes s m n) t other e = let same : t ≡ image_ended = cc in absurd (other same)
thrown_of (Does (Moves s m (Next to))) t other e = let same : t ≡ image_ended = cc in absurd (other same)
thrown_of x t other e = e

pub targets_thrown :
    (w : ControlWord) (to : Option Target) (e : LoopExit) (s : List Cell) (r : List ReturnItem) (t : Throw)
    → (t ≡ image_ended → ⊥) → control_act w None e s r ≡ Does (Fails t) → control_act w to e s r ≡ Does (Fails t)
targets_thrown w None e s r t other h = h
targets_thrown w (Some to) e s r t other h =
    thrown_of (control_act w (Some to) e s r) t other (sym (targets_count_last w to e s r) ∙ h)

pub do_has_none : (to : Option Target) (e : LoopExit) (s : List Cell) (r : List ReturnItem)
    → control_act control.Do None e s r ≡ control_act control.Do to e s r
unfolding control_act
do_has_none to e [] r = refl
do_has_none to e (a ∷ []) r = refl
do_has_none to e (a ∷ b ∷ s) r = refl
