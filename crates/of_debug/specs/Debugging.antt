-- Faithful debugging: what each call says of the debugger before and after, and what stays true over calls.
use Rattle.std.specs.Prelude.{ℕ, ◌≡◌, ◌<◌, ◌^◌, ◌-◌, ◌++◌, Bool, true, false, List, [], ◌∷◌, length, min}
use Rattle.std.specs.Prelude.{Option, Some, None, Result, Ok, Err, nat_le, if◌then◌else◌, ⊤}
use Rattle.of_asking.specs.declared.query.Answer.{Answer}
use Rattle.of_cells.specs.declared.cells.Cell.{Cell}
use Rattle.of_compile.specs.Coding.{Coding}
use Rattle.of_machine.specs.Runs.{Due, Feed, States, after, beginning, settled}
use Rattle.of_machine.specs.States.{flat_machine, no_code}
use Rattle.of_state.specs.State.{flat_calls}
use Rattle.of_state.specs.Views.{items_of_word}
use Rattle.of_debug.specs.declared.fault.DebugFault.{DebugFault}
use Rattle.of_debug.specs.declared.fault.DebugFault.TheVariants as fault
use Rattle.of_steps.specs.declared.goals.Goal.{Goal}
use Rattle.of_steps.specs.declared.goals.Goal.TheVariants as goal
use Rattle.of_steps.specs.declared.marks.Mark.{Mark}
use Rattle.of_debug.specs.Marks.{without}
use Rattle.of_steps.specs.Goals.{is_in}
use Rattle.of_debug.specs.Stepping.{Advances, depth}
use Rattle.of_debug.specs.Turns.{Shows, Stands, run}

-- what callers see of a debugger
pub record Debugged : Type 0 where
  -- its machine, and what is still to be handed in to it
  pub feed : Feed Coding
  -- how many steps the machine had made when it was handed in
  pub began : ℕ
  -- how many steps the debugger makes at most
  pub limit : ℕ
  -- the marked items
  pub marks : List Mark

-- a new debugger
abbrev pub begun : Feed Coding → ℕ → Debugged
begun f limit = record { feed = f; began = f.machine.steps; limit = limit; marks = [] }

-- how many steps it has made
abbrev pub made : Debugged → ℕ
made d = d.feed.machine.steps - d.began

-- how many more it makes at most
abbrev pub left : Debugged → ℕ
left d = d.limit - made d

-- ---- its calls

pub data Command : Type 0 where
  -- a step is made
  StepIn : Command
  -- steps are made, one at least, until the return stack is no deeper than now
  StepOver : Command
  -- until it is shallower
  StepOut : Command
  -- until the item that comes next is marked, so many at most
  Go : ℕ → Command
  -- an item of a colon definition is marked
  BreakAt : Cell → ℕ → Command
  -- its mark is taken away
  Clear : Cell → ℕ → Command

-- A stepping call: what is due is handed in, and then it advances.
abbrev pub Steps : Goal → ℕ → Debugged → Debugged → Result ⊤ DebugFault → Type 0
Steps goal most old new r =
    Advances old.marks goal (min most (left old)) (settled old.feed) new.feed r
    × (new.began ≡ old.began) × (new.limit ≡ old.limit) × (new.marks ≡ old.marks)

-- the depth that a stepping call begins at
abbrev pub depth_now : Debugged → ℕ
depth_now d = depth (settled d.feed).machine

-- why an item can't be marked, if the definition has so many
abbrev pub item_fault : Option ℕ → ℕ → Option DebugFault
item_fault None item = Some fault.NoWord
item_fault (Some count) item = if nat_le count item then Some fault.NoItem else None

-- one mark more, if there is room
abbrev pub marked : Mark → List Mark → Result (List Mark) DebugFault
marked mark marks =
    if is_in mark marks then Ok marks
    else if nat_le 16 (length marks) then Err fault.TooMany
    else Ok (marks ++ mark ∷ [])

-- the marks that a call leaves, unless there is no such item
abbrev pub unless : Option DebugFault → Result (List Mark) DebugFault → Result (List Mark) DebugFault
unless (Some e) marks = Err e
unless None marks = marks

abbrev pub mark_at : Cell → ℕ → Mark
mark_at xt item = record { xt = xt; item = item }

abbrev pub breaks : Cell → ℕ → Debugged → Result (List Mark) DebugFault
breaks xt item d =
    unless (item_fault (items_of_word d.feed.machine.eval xt) item) (marked (mark_at xt item) d.marks)

abbrev pub clears : Cell → ℕ → Debugged → Result (List Mark) DebugFault
clears xt item d =
    unless (item_fault (items_of_word d.feed.machine.eval xt) item) (Ok (without (mark_at xt item) d.marks))

-- what becomes of the marks; a refusal changes nothing
abbrev pub Remarks : Result (List Mark) DebugFault → Result ⊤ DebugFault → Debugged → Debugged → Type 0
Remarks (Ok marks) r old new = (r ≡ Ok tt) × (new ≡ record old { marks = marks })
Remarks (Err e) r old new = (r ≡ Err e) × (new ≡ old)

-- `go` for no step is Idle and changes nothing
abbrev pub Goes : ℕ → Result ⊤ DebugFault → Debugged → Debugged → Type 0
Goes n r old new =
    (n ≡ 0 → (r ≡ Err fault.Idle) × (new ≡ old)) × (0 < n → Steps goal.Marked n old new r)

-- what a call says of the debugger before and after
abbrev pub Obeys : Command → Result ⊤ DebugFault → Debugged → Debugged → Type 0
Obeys StepIn r old new = Steps goal.Step (2 ^ 64 - 1) old new r
Obeys StepOver r old new = Steps (goal.NoDeeper (depth_now old)) (2 ^ 64 - 1) old new r
Obeys StepOut r old new = Steps (goal.Shallower (depth_now old)) (2 ^ 64 - 1) old new r
Obeys (Go n) r old new = Goes n r old new
Obeys (BreakAt xt item) r old new = Remarks (breaks xt item old) r old new
Obeys (Clear xt item) r old new = Remarks (clears xt item old) r old new

-- a list of calls, each from where the one before it stopped
abbrev pub Obey : List Command → Debugged → Debugged → Type 0
Obey [] old new = new ≡ old
Obey (c ∷ cs) old new = (r : Result ⊤ DebugFault) × (d : Debugged) × Obeys c r old d × Obey cs d new

-- ---- what stays true

-- whether a call makes steps
abbrev pub does_step : Command → Bool
does_step StepIn = true
does_step StepOver = true
does_step StepOut = true
does_step (Go n) = true
does_step (BreakAt xt item) = false
does_step (Clear xt item) = false

-- What a debugger shows.
pub record IsFaithful : Type 0 where
  -- Behind any calls, refused ones among them, it stands on a state of the undisturbed run.
  pub stands :
      (cs : List Command) (f : Feed Coding) (limit : ℕ) (d : Debugged) → Obey cs (begun f limit) d →
      Stands (settled f) d.feed
  -- A stepping call that answers Ok shows the run after as many steps as were made, or that with its next question
  -- open, and has made one at least.
  pub shows :
      (c : Command) (s : Feed Coding) (old new : Debugged) → does_step c ≡ true → Stands s old.feed →
      Obeys c (Ok tt) old new → Shows s new.feed × (old.feed.machine.steps < new.feed.machine.steps)

-- The undisturbed run: with no question open at first, it is the run that `run_script` makes, turn by turn.
pub record RunsAgree : Type 0 where
  pub turns :
      (f : Feed Coding) (n : ℕ) → f.machine.waiting ≡ None → run flat_calls n f ≡ after flat_calls n f
  -- so that of a machine on which an image was loaded is the abstract machine's
  pub states :
      (image : List ℕ) (lines : List (List ℕ)) (answers : List Answer) (calls : List Due) (n : ℕ) →
      (run flat_calls n (beginning no_code image lines answers calls)).machine
      ≡ flat_machine (States image lines answers calls n)
