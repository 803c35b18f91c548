-- How a structured body runs (Forth 2012, 6.1, 6.2.0873). A point of a body is the rest of a part, with the parts that
-- enclose it: where execution continues. An item is taken there, and execution continues at what follows it, or at the
-- point that the enclosing parts give.
use Rattle.std.specs.Prelude.{ℕ, zero, suc, ◌+◌, ◌-◌, ◌==◌, nat_lt, Bool, if◌then◌else◌, List, [], ◌∷◌, Option, Some}
use Rattle.std.specs.Prelude.{None}
use Rattle.of_control.specs.Items.{DropSelector, EndArm, EnterLoop, ExitLoop, Item, JumpTo, Perform, RepeatLoop}
use Rattle.of_control.specs.Items.{TestArm}
use Rattle.of_control.specs.Body.{Arm, Block, Body, Choice, Counted, Cycle, End, Jump, LeaveLoop, Operation, body_size}

-- an enclosing part, with what follows it
pub data Enclosing (A : Type 0) : Type 0 where
  InBlock : Body A → Enclosing A
  InCycle : Body A → Body A → Enclosing A  -- its inside, and what follows
  InCounted : Body A → Bool → Body A → Enclosing A  -- its inside, `+loop` or `loop`, and what follows
  InChoice : Body A → Enclosing A
  InArm : Body A → Enclosing A

-- the innermost enclosing part stands first
pub record Point (A : Type 0) : Type 0 where
  pub rest : Body A
  pub around : List (Enclosing A)

abbrev pub at : {A : Type 0} → Body A → List (Enclosing A) → Point A
at b fs = record { rest = b; around = fs }

-- where a jump goes: past the k-th enclosing Block, or to the beginning of the k-th enclosing Cycle
abbrev pub jump_point : {A : Type 0} → Body A → ℕ → List (Enclosing A) → Point A
jump_point whole zero (InBlock r ∷ fs) = at r fs
jump_point whole zero (InCycle b r ∷ fs) = at b (InCycle b r ∷ fs)
jump_point whole (suc k) (InBlock r ∷ fs) = jump_point whole k fs
jump_point whole (suc k) (InCycle b r ∷ fs) = jump_point whole k fs
jump_point whole k _ = at whole []  -- no tight body has such a jump

-- where a `leave` goes: behind the innermost enclosing Counted
abbrev pub leave_point : {A : Type 0} → Body A → List (Enclosing A) → Point A
leave_point whole [] = at whole []  -- no tight body has such a `leave`
leave_point whole (InCounted b l r ∷ fs) = at r fs
leave_point whole (InBlock r ∷ fs) = leave_point whole fs
leave_point whole (InCycle b r ∷ fs) = leave_point whole fs
leave_point whole (InChoice r ∷ fs) = leave_point whole fs
leave_point whole (InArm r ∷ fs) = leave_point whole fs

-- where an `endof` goes: behind the innermost enclosing Choice
abbrev pub choice_point : {A : Type 0} → Body A → List (Enclosing A) → Point A
choice_point whole [] = at whole []  -- no tight body has such an Arm
choice_point whole (InChoice r ∷ fs) = at r fs
choice_point whole (InBlock r ∷ fs) = choice_point whole fs
choice_point whole (InCycle b r ∷ fs) = choice_point whole fs
choice_point whole (InCounted b l r ∷ fs) = choice_point whole fs
choice_point whole (InArm r ∷ fs) = choice_point whole fs

-- what is taken, with the point at which execution may continue other than the next one
pub data Taken (A : Type 0) : Type 0 where
  Performs : A → Taken A
  Jumps : Bool → Point A → Taken A  -- only on zero or always
  Enters : Bool → Point A → Taken A  -- `?do` or `do`, past the loop
  Repeats : Bool → Point A → Taken A  -- `+loop` or `loop`, at the beginning of the loop
  Leaves : Point A → Taken A  -- past the loop
  Tests : Point A → Taken A  -- `of`, past its `endof`
  EndsArm : Point A → Taken A  -- `endof`, past the `endcase`
  DropsSelector : Taken A  -- `endcase`
  Returns : Taken A

-- what is taken, and the next point
pub record Step (A : Type 0) : Type 0 where
  pub taken : Taken A
  pub next : Point A

abbrev pub step : {A : Type 0} → Taken A → Point A → Step A
step t p = record { taken = t; next = p }

-- ---- by structure alone

-- the first item of a part of the whole that these parts enclose; `e` is what comes at its end
abbrev pub first : {A : Type 0} → Body A → Body A → List (Enclosing A) → Step A → Step A
first whole End fs e = e
first whole (Operation a r) fs e = step (Performs a) (at r fs)
first whole (LeaveLoop r) fs e = step (Leaves (leave_point whole fs)) (at r fs)
first whole (Jump z j r) fs e = step (Jumps z (jump_point whole j fs)) (at r fs)
first whole (Block b r) fs e = first whole b (InBlock r ∷ fs) (first whole r fs e)
first whole (Cycle b r) fs e = first whole b (InCycle b r ∷ fs) (first whole r fs e)
first whole (Counted q b l r) fs e = step (Enters q (at r fs)) (at b (InCounted b l r ∷ fs))
first whole (Choice b r) fs e = first whole b (InChoice r ∷ fs) (step DropsSelector (at r fs))
first whole (Arm b r) fs e = step (Tests (at r fs)) (at b (InArm r ∷ fs))

-- what comes at the end of the innermost of these parts; at the end of the whole the return
abbrev pub at_end : {A : Type 0} → Body A → List (Enclosing A) → Step A
at_end whole [] = step Returns (at End [])
at_end whole (InBlock r ∷ fs) = first whole r fs (at_end whole fs)
at_end whole (InCycle b r ∷ fs) = first whole r fs (at_end whole fs)
at_end whole (InCounted b l r ∷ fs) = step (Repeats l (at b (InCounted b l r ∷ fs))) (at r fs)
at_end whole (InChoice r ∷ fs) = step DropsSelector (at r fs)
at_end whole (InArm r ∷ fs) = step (EndsArm (choice_point whole fs)) (at r fs)

-- what is taken at a point
abbrev pub step_from : {A : Type 0} → Body A → Point A → Step A
step_from whole p = first whole p.rest p.around (at_end whole p.around)

-- ---- by the numbers of items

-- item k of a part of the whole that these parts enclose, with what follows it
abbrev pub step_in : {A : Type 0} → Body A → Body A → ℕ → List (Enclosing A) → Step A
step_in whole End k fs = step Returns (at End fs)
step_in whole (Operation a r) zero fs = step (Performs a) (at r fs)
step_in whole (Operation a r) (suc k) fs = step_in whole r k fs
step_in whole (LeaveLoop r) zero fs = step (Leaves (leave_point whole fs)) (at r fs)
step_in whole (LeaveLoop r) (suc k) fs = step_in whole r k fs
step_in whole (Jump z j r) zero fs = step (Jumps z (jump_point whole j fs)) (at r fs)
step_in whole (Jump z j r) (suc k) fs = step_in whole r k fs
step_in whole (Block b r) k fs =
    if nat_lt k (body_size b) then step_in whole b k (InBlock r ∷ fs) else step_in whole r (k - body_size b) fs
step_in whole (Cycle b r) k fs =
    if nat_lt k (body_size b) then step_in whole b k (InCycle b r ∷ fs) else step_in whole r (k - body_size b) fs
step_in whole (Counted q b l r) zero fs = step (Enters q (at r fs)) (at b (InCounted b l r ∷ fs))
step_in whole (Counted q b l r) (suc k) fs =
    if nat_lt k (body_size b) then step_in whole b k (InCounted b l r ∷ fs) else
    if k == body_size b then step (Repeats l (at b (InCounted b l r ∷ fs))) (at r fs) else
    step_in whole r (k - suc (body_size b)) fs
step_in whole (Choice b r) k fs =
    if nat_lt k (body_size b) then step_in whole b k (InChoice r ∷ fs) else
    if k == body_size b then step DropsSelector (at r fs) else
    step_in whole r (k - suc (body_size b)) fs
step_in whole (Arm b r) zero fs = step (Tests (at r fs)) (at b (InArm r ∷ fs))
step_in whole (Arm b r) (suc k) fs =
    if nat_lt k (body_size b) then step_in whole b k (InArm r ∷ fs) else
    if k == body_size b then step (EndsArm (choice_point whole fs)) (at r fs) else
    step_in whole r (k - suc (body_size b)) fs

-- item k of a body, and behind the last one the return
abbrev pub step_at : {A : Type 0} → Body A → ℕ → Step A
step_at b k = step_in b b k []

-- how many items follow the innermost of these parts up to the end of the whole
abbrev pub behind : {A : Type 0} → List (Enclosing A) → ℕ
behind [] = 0
behind (InBlock r ∷ fs) = body_size r + behind fs
behind (InCycle b r ∷ fs) = body_size r + behind fs
behind (InCounted b l r ∷ fs) = suc (body_size r + behind fs)
behind (InChoice r ∷ fs) = suc (body_size r + behind fs)
behind (InArm r ∷ fs) = suc (body_size r + behind fs)

-- how many items are ahead of a point
abbrev pub ahead : {A : Type 0} → Point A → ℕ
ahead p = body_size p.rest + behind p.around

-- the number of the item that comes next at a point
abbrev pub number : {A : Type 0} → Body A → Point A → ℕ
number whole p = body_size whole - ahead p

-- what is taken as an item, whose target is a number; the return is no item of a body
abbrev pub numbered : {A : Type 0} → Body A → Taken A → Option (Item A)
numbered whole (Performs a) = Some (Perform a)
numbered whole (Jumps z p) = Some (JumpTo z (number whole p))
numbered whole (Enters q p) = Some (EnterLoop q (number whole p))
numbered whole (Repeats l p) = Some (RepeatLoop l (number whole p))
numbered whole (Leaves p) = Some (ExitLoop (number whole p))
numbered whole (Tests p) = Some (TestArm (number whole p))
numbered whole (EndsArm p) = Some (EndArm (number whole p))
numbered whole DropsSelector = Some DropSelector
numbered whole Returns = None

-- ---- runs

-- the point at which execution may continue other than the next one
abbrev pub target_of : {A : Type 0} → Taken A → Option (Point A)
target_of (Performs a) = None
target_of (Jumps z p) = Some p
target_of (Enters q p) = Some p
target_of (Repeats l p) = Some p
target_of (Leaves p) = Some p
target_of (Tests p) = Some p
target_of (EndsArm p) = Some p
target_of DropsSelector = None
target_of Returns = None
