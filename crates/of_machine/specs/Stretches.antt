-- Runs that are made stretch by stretch.
use Rattle.std.specs.Prelude.{◌≡◌, ℕ, ◌≤◌, ◌<◌, ◌^◌, List, [], false}
use Rattle.of_asking.specs.declared.query.Answer.{Answer}
use Rattle.of_compile.specs.Coding.{Coding}
use Rattle.of_compile.specs.Structured.{flat_of}
use Rattle.of_devices.specs.Racks.{Meant}
use Rattle.of_eval_laws.specs.Structured.{no_definitions}
use Rattle.of_machine.specs.declared.answers.End.{End}
use Rattle.of_machine.specs.declared.answers.End.TheVariants.{LimitReached}
use Rattle.of_machine.specs.Racks.{HasGoneWith, Rounds, answers_of}
use Rattle.of_machine.specs.Runs.{Due, Feed, HasGone, IsOver, RunsTo, beginning, end_of}
use Rattle.of_machine.specs.States.{is_running}

-- how a run stands
abbrev pub stands : Feed Coding → End
stands f = end_of f.machine.waiting (is_running f.machine)

-- Turn by turn a run has come from one feed to another, until so many steps were made in all or no more could be, and
-- stands so.
abbrev pub Stretches : ℕ → Feed Coding → Feed Coding → End → Type 0
Stretches limit old new e = IsOver limit old new × (e ≡ stands new)

-- the same where a rack has answered what was asked
abbrev pub StretchesWith : ℕ → List Meant → List Meant → Feed Coding → Feed Coding → End → Type 0
StretchesWith limit ds es old new e = Rounds limit false ds es old new × (e ≡ stands new)

-- A run that is made stretch by stretch is the run that is made in one go.
pub record StretchesJoin : Type 0 where
  -- a stretch that its limit cuts short has gone on, step by step
  pub gone : (limit : ℕ) (f g : Feed Coding) → Stretches limit f g LimitReached → HasGone f g
  -- another is over under any larger limit, too
  pub over :
      (limit more : ℕ) (f g : Feed Coding) (e : End) →
      limit ≤ more → (e ≡ LimitReached → ⊥) → Stretches limit f g e → Stretches more f g e
  -- behind what has gone on, a stretch is one of the whole
  pub behind :
      (limit : ℕ) (f g h : Feed Coding) (e : End) → HasGone f g → Stretches limit g h e → Stretches limit f h e
  -- from the beginning it is the run
  pub ends :
      (image : List ℕ) (lines : List (List ℕ)) (answers : List Answer) (calls : List Due) (limit : ℕ)
      (f : Feed Coding) (e : End) →
      limit < 2 ^ 64 → Stretches limit (beginning (flat_of no_definitions) image lines answers calls) f e →
      RunsTo image lines answers calls limit f.machine e
  -- so it is where a rack answers
  pub gone_with :
      (limit : ℕ) (ds es : List Meant) (f g : Feed Coding) (e : End) →
      StretchesWith limit ds es f g e → HasGoneWith ds es f g
  pub over_with :
      (limit more : ℕ) (ds es : List Meant) (f g : Feed Coding) (e : End) →
      limit ≤ more → (e ≡ LimitReached → ⊥) → StretchesWith limit ds es f g e → StretchesWith more ds es f g e
  pub behind_with :
      (limit : ℕ) (ds es hs : List Meant) (f g h : Feed Coding) (e : End) →
      HasGoneWith ds es f g → StretchesWith limit es hs g h e → StretchesWith limit ds hs f h e
  pub ends_with :
      (image : List ℕ) (lines : List (List ℕ)) (calls : List Due) (limit : ℕ) (ds es : List Meant)
      (f : Feed Coding) (e : End) →
      limit < 2 ^ 64 → StretchesWith limit ds es (beginning (flat_of no_definitions) image lines [] calls) f e →
      RunsTo image lines (answers_of ds f.machine.asked) calls limit f.machine e
