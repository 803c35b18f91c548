-- Lists of calls keep to the undisturbed run.
use Rattle.std.proofs.Common.{◌≡◌, ℕ, zero, suc, ◌+◌, ◌-◌, ◌^◌, ◌<◌, min, Bool, true, false, List, [], ◌∷◌}
use Rattle.std.proofs.Common.{None, Result, Ok, Err, refl, sym, ap, subst, ◌∙◌, inl, inr, arith}
use Rattle.std.specs.Prelude.{⊤, ◌||◌, if◌then◌else◌}
use Rattle.of_asking.specs.declared.query.Query.{Query}
use Rattle.of_compile.specs.Coding.{Coding}
use Rattle.of_machine.specs.Runs.{Feed, asking, settled}
use Rattle.of_state.specs.State.{flat_calls}
use Rattle.of_debug.specs.declared.fault.DebugFault.{DebugFault}
use Rattle.of_debug.specs.declared.fault.DebugFault.TheVariants as fault
use Rattle.of_steps.specs.declared.goals.Goal.{Goal}
use Rattle.of_steps.specs.declared.goals.Goal.TheVariants as goal
use Rattle.of_steps.specs.declared.marks.Mark.{Mark}
use Rattle.of_debug.proofs.FeedLemmas.{settled_again, settled_steps}
use Rattle.of_debug.proofs.StepLemmas.{run_none, run_one, shows_itself, shows_so}
use Rattle.of_debug.proofs.TurnLemmas.{Stayed, Turned, Went, settled_turn, steps_at, turn_at, turned_so}
use Rattle.of_debug.specs.Debugging.{BreakAt, Clear, Command, Debugged, Go, IsFaithful, Obey, Obeys, Remarks, StepIn}
use Rattle.of_debug.specs.Debugging.{StepOut, StepOver, Steps, begun, breaks, clears, depth_now, does_step, left}
use Rattle.of_debug.specs.Stepping.{Advances, IsRefused, has_stayed, is_there, until}
use Rattle.of_debug.specs.Turns.{IsAt, Shows, Stands, between, run, turn}

-- ---- feeds with their next question open

open_twice : (f : Feed Coding) (q : Query) → (asking q f).machine.waiting ≡ None → ⊥
open_twice f q e = absurd cc

-- a feed that stands at one that stands at a third stands at that
at_joined : (f g h : Feed Coding) → IsAt f g → IsAt g h → IsAt f h
at_joined f g h (inl same) next = subst (λ x. IsAt x h) same next
at_joined f g h (inr (q, can, none, asks, same)) (inl e) = inr (q, can, none, asks, e ∙ same)
at_joined f g h (inr (q, can, none, asks, same)) (inr (p, can', none', asks', e)) =
    absurd (open_twice f q (sym (ap (λ (x : Feed Coding). x.machine.waiting) same) ∙ none'))

-- and so do their runs
run_at : (n : ℕ) (f g : Feed Coding) → IsAt f g → IsAt (run flat_calls n f) (run flat_calls n g)
unfolding run
run_at zero f g at = at
run_at (suc n) f g at = inl (turn_at (run flat_calls n f) (run flat_calls n g) (run_at n f g at))

pub run_joined : (n k : ℕ) (s : Feed Coding)
    → run flat_calls k (run flat_calls n s) ≡ run flat_calls (n + k) s
unfolding run
run_joined n zero s = let none : n + 0 ≡ n = omega arith in ap (λ j. run flat_calls j s) (sym none)
run_joined n (suc k) s =
    let more : suc (n + k) ≡ n + suc k = omega arith in
    ap (turn flat_calls) (run_joined n k s) ∙ ap (λ j. run flat_calls j s) more

-- a feed of a run, and one of the run from there
pub shows_joined : (s f g : Feed Coding) → Shows s f → Shows f g → Shows s g
shows_joined s f g (few, at) (more, next) =
    let n = between s f in
    let k = between f g in
    let there : IsAt (run flat_calls k (run flat_calls n s)) g =
    at_joined (run flat_calls k (run flat_calls n s)) (run flat_calls k f) g
    (run_at k (run flat_calls n s) f at) next in
    shows_so (n + k) s g (omega (arith, few, more)) (subst (λ x. IsAt x g) (run_joined n k s) there)

one_turn : (f g : Feed Coding) → g ≡ turn flat_calls f → Turned f g → Shows f g
one_turn f g e (Went rest steps) =
    shows_so 1 f g steps (inl (e ∙ ap (turn flat_calls) (sym (run_none f)) ∙ run_one 0 f))
one_turn f g e (Stayed at) =
    shows_so 0 f g (omega (arith, steps_at f g at)) (subst (λ x. IsAt x g) (sym (run_none f)) at)

-- a turn keeps to the run
shows_turn : (s f : Feed Coding) → Shows s f → Shows s (turn flat_calls f)
shows_turn s f o = shows_joined s f (turn flat_calls f) o (one_turn f (turn flat_calls f) refl (turned_so f))

-- ---- up to a goal

onwards_by : (P : Feed Coding → Type 0) (b : Bool) (more : Feed Coding → Feed Coding) (g : Feed Coding) → P g
    → P (more g) → P (if b then g else more g)
onwards_by P true more g here on = here
onwards_by P false more g here on = on

-- what each turn keeps stays so up to a goal
until_keeps : (P : Feed Coding → Type 0) → ((f : Feed Coding) → P f → P (turn flat_calls f)) → (marks : List Mark)
    (goal : Goal) (n : ℕ) (f : Feed Coding) → P f → P (until marks goal n f)
unfolding until
until_keeps P keeps marks goal zero f here = here
until_keeps P keeps marks goal (suc n) f here =
    let g = turn flat_calls f in
    onwards_by P (has_stayed f g || is_there marks goal g.machine) (until marks goal n) g (keeps f here)
    (until_keeps P keeps marks goal n g (keeps f here))

shows_until : (s : Feed Coding) (marks : List Mark) (goal : Goal) (n : ℕ) (f : Feed Coding) → Shows s f
    → Shows s (until marks goal n f)
shows_until s marks goal n f o = until_keeps (Shows s) (shows_turn s) marks goal n f o

settled_until : (marks : List Mark) (goal : Goal) (n : ℕ) (f : Feed Coding) → settled f ≡ f
    → settled (until marks goal n f) ≡ until marks goal n f
settled_until marks goal n f full = until_keeps (λ g. settled g ≡ g) settled_turn marks goal n f full

-- ---- one call

stopped_shows : (s : Feed Coding) (marks : List Mark) (goal : Goal) (n : ℕ) (old new : Feed Coding) → Shows s old
    → new ≡ until marks goal n old → Shows s new
stopped_shows s marks goal n old new o e = subst (λ x. Shows s x) (sym e) (shows_until s marks goal n old o)

stopped_stands : (s : Feed Coding) (marks : List Mark) (goal : Goal) (n : ℕ) (old new : Feed Coding) → Shows s old
    → settled old ≡ old → new ≡ until marks goal n old → Stands s new
stopped_stands s marks goal n old new o full e =
    subst (λ x. Stands s x) (sym e)
    (subst (λ x. Shows s x) (sym (settled_until marks goal n old full)) (shows_until s marks goal n old o))

-- where memory was refused, what was made is of the run, too
refused_shows : (marks : List Mark) (goal : Goal) (n : ℕ) (old new : Feed Coding) → IsRefused marks goal n old new
    → Shows old (settled new)
refused_shows marks goal n old new r =
    let u = until marks goal r.made old in
    let near : Shows u (settled new) =
    shows_so 0 u (settled new) (omega (arith, steps_at u (settled new) r.at))
    (subst (λ x. IsAt x (settled new)) (sym (run_none u)) r.at) in
    shows_joined old u (settled new) (shows_until old marks goal r.made old (shows_itself old)) near

advances_stand : (s : Feed Coding) (marks : List Mark) (goal : Goal) (n : ℕ) (old new : Feed Coding)
    (r : Result ⊤ DebugFault) → Shows s old → settled old ≡ old → Advances marks goal n old new r → Stands s new
advances_stand s marks goal n old new (Ok u) o full a = stopped_stands s marks goal n old new o full a.0
advances_stand s marks goal n old new (Err fault.Idle) o full a = stopped_stands s marks goal n old new o full a.0
advances_stand s marks goal n old new (Err fault.NoMemory) o full a =
    shows_joined s old (settled new) o (refused_shows marks goal n old new a)
advances_stand s marks goal n old new (Err fault.NoWord) o full a = absurd a
advances_stand s marks goal n old new (Err fault.NoItem) o full a = absurd a
advances_stand s marks goal n old new (Err fault.TooMany) o full a = absurd a

steps_stand : (s : Feed Coding) (goal : Goal) (most : ℕ) (old new : Debugged) (r : Result ⊤ DebugFault)
    → Stands s old.feed → Steps goal most old new r → Stands s new.feed
steps_stand s goal most old new r o a =
    advances_stand s old.marks goal (min most (left old)) (settled old.feed) new.feed r o (settled_again old.feed) a.0

remarks_stand : (s : Feed Coding) (m : Result (List Mark) DebugFault) (old new : Debugged) (r : Result ⊤ DebugFault)
    → Stands s old.feed → Remarks m r old new → Stands s new.feed
remarks_stand s (Ok marks) old new r o a = subst (λ (x : Debugged). Stands s x.feed) (sym a.1) o
remarks_stand s (Err e) old new r o a = subst (λ (x : Debugged). Stands s x.feed) (sym a.1) o

-- a call keeps to the run
obeys_stands : (c : Command) (s : Feed Coding) (old new : Debugged) (r : Result ⊤ DebugFault) → Stands s old.feed
    → Obeys c r old new → Stands s new.feed
obeys_stands StepIn s old new r o a = steps_stand s goal.Step (2 ^ 64 - 1) old new r o a
obeys_stands StepOver s old new r o a = steps_stand s (goal.NoDeeper (depth_now old)) (2 ^ 64 - 1) old new r o a
obeys_stands StepOut s old new r o a = steps_stand s (goal.Shallower (depth_now old)) (2 ^ 64 - 1) old new r o a
obeys_stands (Go zero) s old new r o a = subst (λ (x : Debugged). Stands s x.feed) (sym (a.0 refl).1) o
obeys_stands (Go (suc n)) s old new r o a = steps_stand s goal.Marked (suc n) old new r o (a.1 (omega arith))
obeys_stands (BreakAt xt item) s old new r o a = remarks_stand s (breaks xt item old) old new r o a
obeys_stands (Clear xt item) s old new r o a = remarks_stand s (clears xt item old) old new r o a

-- ---- a stepping call that answers Ok

steps_show : (s : Feed Coding) (goal : Goal) (most : ℕ) (old new : Debugged) → Stands s old.feed
    → Steps goal most old new (Ok tt) → Shows s new.feed × (old.feed.machine.steps < new.feed.machine.steps)
steps_show s goal most old new o a = (
  stopped_shows s old.marks goal (min most (left old)) (settled old.feed) new.feed o a.0.0,
  omega (arith, settled_steps old.feed, a.0.1),
)

no_step : {A : Type 0} {e : DebugFault} → ◌≡◌ {A = Result ⊤ DebugFault} (Ok tt) (Err e) → A
no_step h = absurd cc

not_one : {A : Type 0} → false ≡ true → A
not_one e = absurd cc

shows_by : (c : Command) (s : Feed Coding) (old new : Debugged) → does_step c ≡ true → Stands s old.feed
    → Obeys c (Ok tt) old new → Shows s new.feed × (old.feed.machine.steps < new.feed.machine.steps)
shows_by StepIn s old new does o a = steps_show s goal.Step (2 ^ 64 - 1) old new o a
shows_by StepOver s old new does o a = steps_show s (goal.NoDeeper (depth_now old)) (2 ^ 64 - 1) old new o a
shows_by StepOut s old new does o a = steps_show s (goal.Shallower (depth_now old)) (2 ^ 64 - 1) old new o a
shows_by (Go zero) s old new does o a = no_step (a.0 refl).0
shows_by (Go (suc n)) s old new does o a = steps_show s goal.Marked (suc n) old new o (a.1 (omega arith))
shows_by (BreakAt xt item) s old new does o a = not_one does
shows_by (Clear xt item) s old new does o a = not_one does

-- ---- lists of calls

obey_stands : (cs : List Command) (s : Feed Coding) (old new : Debugged) → Stands s old.feed → Obey cs old new
    → Stands s new.feed
obey_stands [] s old new o e = subst (λ (x : Debugged). Stands s x.feed) (sym e) o
obey_stands (c ∷ cs) s old new o (r, d, a, more) = obey_stands cs s d new (obeys_stands c s old d r o a) more

-- every list of calls
pub faithful : IsFaithful
faithful = record {
  stands =
      λ cs f limit d more. obey_stands cs (settled f) (begun f limit) d (shows_itself (settled f)) more;
  shows = shows_by;
}
