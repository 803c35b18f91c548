-- What words of control leave of the return stack at the source.
use Rattle.of_stacks.specs.Loops.{goes_on}
use Rattle.of_flow.specs.Turns.{repeated}
use Rattle.std.proofs.Common.{inl, inr, not, sym, subst}
use Rattle.of_cells.specs.Arithmetic.{plus}
use Rattle.of_eval_laws.specs.Returning.{AreAmong, end_in, loop_ends}
use Rattle.of_means.specs.Means.{do_word, loop_word}
use Rattle.of_stacks.specs.declared.return_item.LoopParameters.{LoopParameters}
use Rattle.std.proofs.Common.{◌≡◌, ℕ, Bool, true, false, List, [], ◌∷◌, length, None, Result, Ok, Err}
use Rattle.std.proofs.Common.{refl, if◌then◌else◌, nat_lt}
use Rattle.std.specs.Prelude.{◌==◌}
use Rattle.of_cells.specs.declared.cells.Cell.{Cell}
use Rattle.of_stacks.specs.declared.throws.Throw.{Throw}
use Rattle.of_stacks.specs.declared.return_item.LoopExit.{LoopExit}
use Rattle.of_stacks.specs.declared.return_item.LoopExit.TheVariants as exit
use Rattle.of_stacks.specs.declared.return_item.ReturnItem.{ReturnItem}
use Rattle.of_stacks.specs.declared.return_item.ReturnItem.TheVariants.{Return, Loop, User, Handler, Source, Caller}
use Rattle.of_stacks.specs.Loops.{passes_limit, turned}
use Rattle.of_stacks.specs.Order.{refused_if}
use Rattle.of_stacks.specs.Returns.{has_due_top}
use Rattle.of_stacks.specs.Throws.{return_stack_overflow}
use Rattle.of_stacks.specs.Unwinding.{latest_handler}
use Rattle.of_flow.specs.declared.control.ControlWord.{ControlWord}
use Rattle.of_flow.specs.declared.control.ControlWord.TheVariants as control
use Rattle.of_flow.specs.Turns.{Turn, control_entry, entering, going, loop_item, one, repeating}
use Rattle.of_means.specs.Sources.{IsInImage, IsLevel}

module _ (image : List ℕ) where
  pub level_rests : (r : List ReturnItem) → IsLevel image r → has_due_top r ≡ false
  level_rests [] h = refl
  level_rests (Loop l ∷ r) h = refl
  level_rests (User x ∷ r) h = refl
  level_rests (Source s ∷ r) h = refl
  level_rests (Return to ∷ r) h = refl
  level_rests (Handler f ∷ r) h = absurd h
  level_rests (Caller d ∷ r) h = absurd h

  pub level_unguarded : (r : List ReturnItem) → IsLevel image r → latest_handler r ≡ None
  unfolding latest_handler
  level_unguarded [] h = refl
  level_unguarded (Loop l ∷ r) h = level_unguarded r h.1
  level_unguarded (User x ∷ r) h = level_unguarded r h
  level_unguarded (Source s ∷ r) h = h.1.0
  level_unguarded (Return to ∷ r) h = absurd h
  level_unguarded (Handler f ∷ r) h = absurd h
  level_unguarded (Caller d ∷ r) h = absurd h

  -- what was left is so, if nothing was thrown
  abbrev pub Leveled : Result Turn Throw → Type 0
  Leveled (Ok t) = IsLevel image t.items
  Leveled (Err t) = Unit {0}

  either : (b : Bool) (x y : Result Turn Throw) → Leveled x → Leveled y → Leveled (if b then x else y)
  either true x y h k = h
  either false x y h k = k

  going_level : (lands : Bool) (s : List Cell) (r : List ReturnItem) → IsLevel image r → Leveled (going lands s r)
  going_level true s r h = h
  going_level false s r h = tt

  room_level : (b : Bool) (s : List Cell) (r : List ReturnItem) → IsLevel image r
      → Leveled (entering s (refused_if b return_stack_overflow r))
  room_level true s r h = tt
  room_level false s r h = h

  items_either : (b : Bool) (x y : List ReturnItem) → IsLevel image x → IsLevel image y
      → IsLevel image (if b then x else y)
  items_either true x y h k = h
  items_either false x y h k = k

  turned_level : (step : Cell) (r : List ReturnItem) → IsLevel image r → IsLevel image (turned step r)
  turned_level step [] h = h
  turned_level step (Loop l ∷ r) h = items_either (passes_limit l.index l.limit step) r _ h.1 h
  turned_level step (User x ∷ r) h = h
  turned_level step (Source s ∷ r) h = h
  turned_level step (Return to ∷ r) h = h
  turned_level step (Handler f ∷ r) h = h
  turned_level step (Caller d ∷ r) h = h

  repeating_level : (s : List Cell) (r : List ReturnItem) (x : Result Bool Throw) → IsLevel image r
      → Leveled (repeating s r x)
  repeating_level s r (Ok goes) h = h
  repeating_level s r (Err t) h = tt

  pub control_level : (w : ControlWord) (lands : Bool) (e : ℕ) (s : List Cell) (r : List ReturnItem)
      → IsLevel image r → IsInImage image e → Leveled (control_entry w lands (exit.Position e) s r)
  unfolding control_entry
  control_level control.Branch lands e s r h i = going_level lands s r h
  control_level control.BranchIfZero lands e [] r h i = tt
  control_level control.BranchIfZero lands e (a ∷ s) r h i =
      either (a.0 == 0) _ _ (going_level lands s r h) h
  control_level control.Do lands e [] r h i = tt
  control_level control.Do lands e (a ∷ []) r h i = tt
  control_level control.Do lands e (a ∷ b ∷ s) r h i =
      let more = loop_item a b (exit.Position e) ∷ r in
      room_level (nat_lt 256 (length more)) s more (i, h)
  control_level control.QuestionDo lands e [] r h i = tt
  control_level control.QuestionDo lands e (a ∷ []) r h i = tt
  control_level control.QuestionDo lands e (a ∷ b ∷ s) r h i =
      let more = loop_item a b (exit.Position e) ∷ r in
      either (a.0 == b.0) _ _ (going_level lands s r h) (room_level (nat_lt 256 (length more)) s more (i, h))
  control_level control.Loop lands e s r h i = repeating_level s (turned one r) _ (turned_level one r h)
  control_level control.PlusLoop lands e [] r h i = tt
  control_level control.PlusLoop lands e (a ∷ s) r h i = repeating_level s (turned a r) _ (turned_level a r h)
  control_level control.Of lands e [] r h i = tt
  control_level control.Of lands e (a ∷ []) r h i = tt
  control_level control.Of lands e (a ∷ b ∷ s) r h i = either (b.0 == a.0) _ _ h (going_level lands (b ∷ s) r h)
  control_level control.EndOf lands e s r h i = going_level lands s r h
  control_level control.EndCase lands e [] r h i = tt
  control_level control.EndCase lands e (a ∷ s) r h i = h

-- ---- words that don't note where their loop ends

abbrev pub notes : ControlWord → Bool
notes control.Do = true
notes control.QuestionDo = true
notes w = false

pub exit_free : (w : ControlWord) (lands : Bool) (e k : LoopExit) (s : List Cell) (r : List ReturnItem)
    → notes w ≡ false → control_entry w lands e s r ≡ control_entry w lands k s r
unfolding control_entry
exit_free control.Branch lands e k s r h = refl
exit_free control.BranchIfZero lands e k [] r h = refl
exit_free control.BranchIfZero lands e k (a ∷ s) r h = refl
exit_free control.Do lands e k s r h = absurd cc
exit_free control.QuestionDo lands e k s r h = absurd cc
exit_free control.Loop lands e k s r h = refl
exit_free control.PlusLoop lands e k [] r h = refl
exit_free control.PlusLoop lands e k (a ∷ s) r h = refl
exit_free control.Of lands e k [] r h = refl
exit_free control.Of lands e k (a ∷ []) r h = refl
exit_free control.Of lands e k (a ∷ b ∷ s) r h = refl
exit_free control.EndOf lands e k s r h = refl
exit_free control.EndCase lands e k [] r h = refl
exit_free control.EndCase lands e k (a ∷ s) r h = refl

-- ---- the loops that are open

weaken : (xs ys : List ℕ) (y : ℕ) → AreAmong xs ys → AreAmong xs (y ∷ ys)
weaken [] ys y h = tt
weaken (x ∷ xs) ys y h = inr h

-- without the first, they are among the same
pub drop_any : (x : ℕ) (xs ys : List ℕ) → AreAmong (x ∷ xs) ys → AreAmong xs ys
drop_any x xs [] h = absurd h
drop_any x xs (y ∷ ys) (inl h) = weaken xs ys y h.1
drop_any x xs (y ∷ ys) (inr h) = weaken xs ys y (drop_any x xs ys h)

-- and without the first of both
pub drop_both : (x : ℕ) (xs : List ℕ) (y : ℕ) (ys : List ℕ) → AreAmong (x ∷ xs) (y ∷ ys) → AreAmong xs ys
drop_both x xs y ys (inl h) = h.1
drop_both x xs y ys (inr h) = drop_any x xs ys h

not_false : true ≡ false → ⊥
not_false e = cc

-- among which the loops are that a word of control leaves open, where it goes and where it stays
abbrev pub Branches : List ℕ → List ℕ → Result Turn Throw → Type 0
Branches lg lh (Ok t) =
    (t.goes ≡ true → AreAmong (loop_ends t.items) lg) × (t.goes ≡ false → AreAmong (loop_ends t.items) lh)
Branches lg lh (Err t) = Unit {0}

either_branches : (lg lh : List ℕ) (b : Bool) (x y : Result Turn Throw) → Branches lg lh x → Branches lg lh y
    → Branches lg lh (if b then x else y)
either_branches lg lh true x y h k = h
either_branches lg lh false x y h k = k

room_branches : (ls : List ℕ) (b : Bool) (s : List Cell) (i k : Cell) (e : ℕ) (r : List ReturnItem)
    → AreAmong (loop_ends r) ls
    → Branches ls (e ∷ ls) (entering s (refused_if b return_stack_overflow (loop_item i k (exit.Position e) ∷ r)))
room_branches ls true s i k e r h = tt
room_branches ls false s i k e r h = ((λ g. absurd (not_false (sym g))), (λ g. inl (refl, h)))

-- `do` opens one
pub do_branches : (v : Bool) (ls : List ℕ) (e : ℕ) (s : List Cell) (r : List ReturnItem) → AreAmong (loop_ends r) ls
    → Branches ls (e ∷ ls) (control_entry (do_word v) true (exit.Position e) s r)
unfolding control_entry
do_branches false ls e [] r h = tt
do_branches false ls e (a ∷ []) r h = tt
do_branches false ls e (a ∷ b ∷ s) r h =
    room_branches ls (nat_lt 256 (length (loop_item a b (exit.Position e) ∷ r))) s a b e r h
do_branches true ls e [] r h = tt
do_branches true ls e (a ∷ []) r h = tt
do_branches true ls e (a ∷ b ∷ s) r h =
    either_branches ls (e ∷ ls) (a.0 == b.0) _ _ ((λ g. h), (λ g. absurd (not_false g)))
    (room_branches ls (nat_lt 256 (length (loop_item a b (exit.Position e) ∷ r))) s a b e r h)

-- and `loop` closes it, where it doesn't go on
passing : (ls : List ℕ) (q : ℕ) (b : Bool) (s : List Cell) (l k : LoopParameters) (r : List ReturnItem)
    → k.exit ≡ l.exit → AreAmong (loop_ends (Loop l ∷ r)) (q ∷ ls)
    → Branches (q ∷ ls) ls (repeating s (if b then r else Loop k ∷ r) (repeated true (Ok (not b))))
passing ls q true s l k r e h =
    ((λ g. absurd (not_false (sym g))), (λ g. drop_both (end_in l.exit) (loop_ends r) q ls h))
passing ls q false s l k r e h = (
  (λ g. subst (λ (x : LoopExit). AreAmong (end_in x ∷ loop_ends r) (q ∷ ls)) (sym e) h),
  (λ g. absurd (not_false g)),
)

step_branches : (ls : List ℕ) (q : ℕ) (step : Cell) (s : List Cell) (r : List ReturnItem)
    → AreAmong (loop_ends r) (q ∷ ls)
    → Branches (q ∷ ls) ls (repeating s (turned step r) (repeated true (goes_on step r)))
step_branches ls q step s [] h = tt
step_branches ls q step s (Loop l ∷ r) h =
    passing ls q (passes_limit l.index l.limit step) s l (record l { index = plus l.index step }) r refl h
step_branches ls q step s (User x ∷ r) h = tt
step_branches ls q step s (Source x ∷ r) h = tt
step_branches ls q step s (Return x ∷ r) h = tt
step_branches ls q step s (Handler x ∷ r) h = tt
step_branches ls q step s (Caller x ∷ r) h = tt

pub loop_branches : (v : Bool) (ls : List ℕ) (q : ℕ) (k : LoopExit) (s : List Cell) (r : List ReturnItem)
    → AreAmong (loop_ends r) (q ∷ ls) → Branches (q ∷ ls) ls (control_entry (loop_word v) true k s r)
unfolding control_entry
loop_branches false ls q k s r h = step_branches ls q one s r h
loop_branches true ls q k [] r h = tt
loop_branches true ls q k (a ∷ s) r h = step_branches ls q a s r h

-- words that leave the return stack alone
abbrev pub keeps : ControlWord → Bool
keeps control.BranchIfZero = true
keeps control.Of = true
keeps w = false

pub kept_branches : (w : ControlWord) (ls : List ℕ) (k : LoopExit) (s : List Cell) (r : List ReturnItem)
    → keeps w ≡ true
    → AreAmong (loop_ends r) ls → Branches ls ls (control_entry w true k s r)
unfolding control_entry
kept_branches control.BranchIfZero ls k [] r e h = tt
kept_branches control.BranchIfZero ls k (a ∷ s) r e h =
    either_branches ls ls (a.0 == 0) _ _ ((λ g. h), (λ g. h)) ((λ g. h), (λ g. h))
kept_branches control.Of ls k [] r e h = tt
kept_branches control.Of ls k (a ∷ []) r e h = tt
kept_branches control.Of ls k (a ∷ b ∷ s) r e h =
    either_branches ls ls (b.0 == a.0) _ _ ((λ g. h), (λ g. h)) ((λ g. h), (λ g. h))
kept_branches control.Branch ls k s r e h = absurd (not_false (sym e))
kept_branches control.Do ls k s r e h = absurd (not_false (sym e))
kept_branches control.QuestionDo ls k s r e h = absurd (not_false (sym e))
kept_branches control.Loop ls k s r e h = absurd (not_false (sym e))
kept_branches control.PlusLoop ls k s r e h = absurd (not_false (sym e))
kept_branches control.EndOf ls k s r e h = absurd (not_false (sym e))
kept_branches control.EndCase ls k s r e h = absurd (not_false (sym e))
