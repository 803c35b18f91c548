-- The undisturbed run is the run of a script.
use Rattle.std.proofs.Common.{◌≡◌, ℕ, zero, suc, Bool, true, false, List, Option, Some, None, refl, sym, ap, subst, ◌∙◌}
use Rattle.std.specs.Prelude.{◌&&◌, drop, is_none}
use Rattle.of_asking.specs.declared.query.Answer.{Answer}
use Rattle.of_asking.specs.declared.query.Query.{Query}
use Rattle.of_compile.specs.Coding.{Coding}
use Rattle.of_machine.specs.Runs.{Due, Feed, RunsAgree as ScriptsAgree, after, asking, beginning, fitting, next}
use Rattle.of_machine.specs.Runs.{settled, told, turned}
use Rattle.of_machine.specs.States.{answered, can_step, idle, loaded, moved, no_code, slot}
use Rattle.of_state.specs.State.{flat_calls}
use Rattle.of_steps.specs.Steps.{asked_by}
use Rattle.of_debug.proofs.FeedLemmas.{settled_waiting}
use Rattle.of_debug.proofs.TurnLemmas.{turn_asks, turn_moves, turn_none, turn_open}
use Rattle.of_debug.specs.Debugging.{RunsAgree}
use Rattle.of_debug.specs.Turns.{run, turn}

-- no question is open, or no answer fits it
pub data Awaits (f : Feed Coding) : Type 0 where
  Quiet : f.machine.waiting ≡ None → Awaits f
  Stuck : (q : Query) → f.machine.waiting ≡ Some q → fitting q f.answers ≡ None → Awaits f

next_none : (f : Feed Coding) → can_step f.machine && is_none f.machine.waiting ≡ false → next flat_calls f ≡ f
unfolding next
next_none f can = rw can refl

next_some : (f : Feed Coding) → can_step f.machine && is_none f.machine.waiting ≡ true
    → next flat_calls f ≡ turned flat_calls (asked_by flat_calls f.machine.eval) f
unfolding next
next_some f can = rw can refl

-- a turn is that of a script's run, and so it stays
record Agrees (f : Feed Coding) : Type 0 where
  same : turn flat_calls f ≡ next flat_calls f
  awaits : Awaits (turn flat_calls f)

awaits_at : (f g : Feed Coding) → g ≡ f → Awaits f → Awaits g
awaits_at f g e a = subst Awaits (sym e) a

awaits_told : (f : Feed Coding) (q : Query) (o : Option Answer) → f.machine.waiting ≡ Some q
    → fitting q f.answers ≡ o → Awaits (told flat_calls o f)
awaits_told f q None waits none = Stuck q waits none
awaits_told f q (Some answer) waits fit =
    Quiet
    (settled_waiting (record f { machine = answered flat_calls answer f.machine; answers = drop 1 f.answers }))

quiet_by : (f : Feed Coding) (o : Option Query) → can_step f.machine ≡ true → f.machine.waiting ≡ None
    → asked_by flat_calls f.machine.eval ≡ o → Agrees f
quiet_by f None can none quiet =
    let both : can_step f.machine && is_none f.machine.waiting ≡ true = rw (can, none) refl in
    let goes = turn_moves f can none quiet in record {
      same = goes ∙ sym (next_some f both ∙ ap (λ o. turned flat_calls o f) quiet);
      awaits =
          awaits_at (settled (record f { machine = moved flat_calls f.machine })) (turn flat_calls f) goes
          (Quiet (settled_waiting (record f { machine = moved flat_calls f.machine }) ∙ none));
    }
quiet_by f (Some q) can none asks =
    let both : can_step f.machine && is_none f.machine.waiting ≡ true = rw (can, none) refl in
    let goes = turn_asks f q can none asks in record {
      same = goes ∙ sym (next_some f both ∙ ap (λ o. turned flat_calls o f) asks);
      awaits =
          awaits_at (told flat_calls (fitting q f.answers) (asking q f)) (turn flat_calls f) goes
          (awaits_told (asking q f) q (fitting q f.answers) refl refl);
    }

stays : (f : Feed Coding) → Awaits f → turn flat_calls f ≡ f → next flat_calls f ≡ f → Agrees f
stays f a here there = record { same = here ∙ sym there; awaits = awaits_at f (turn flat_calls f) here a }

agrees_by : (f : Feed Coding) (b : Bool) → can_step f.machine ≡ b → Awaits f → Agrees f
agrees_by f false can a =
    stays f a (turn_none f can) (next_none f (ap (λ b. b && is_none f.machine.waiting) can))
agrees_by f true can (Quiet none) = quiet_by f (asked_by flat_calls f.machine.eval) can none refl
agrees_by f true can (Stuck q waits none) =
    stays f (Stuck q waits none)
    (turn_open f q can waits ∙ ap (λ o. told flat_calls o f) none)
    (next_none f (rw (can, waits) refl))

agrees : (f : Feed Coding) → Awaits f → Agrees f
agrees f a = agrees_by f (can_step f.machine) refl a

record AgreesAfter (n : ℕ) (f : Feed Coding) : Type 0 where
  same : run flat_calls n f ≡ after flat_calls n f
  awaits : Awaits (run flat_calls n f)

all_agree : (n : ℕ) (f : Feed Coding) → Awaits f → AgreesAfter n f
unfolding run after
all_agree zero f a = record { same = refl; awaits = a }
all_agree (suc n) f a =
    let before = all_agree n f a in
    let one = agrees (run flat_calls n f) before.awaits in
    record { same = one.same ∙ ap (next flat_calls) before.same; awaits = one.awaits }

begins_quiet : (image : List ℕ) (lines : List (List ℕ)) (answers : List Answer) (calls : List Due)
    → (beginning no_code image lines answers calls).machine.waiting ≡ None
begins_quiet image lines answers calls =
    settled_waiting
    (record {
      machine = loaded (idle no_code) image slot;
      lines = lines;
      answers = answers;
      calls = calls;
    })

-- the run is that of a script, and so the abstract machine's
pub runs_are : ScriptsAgree → RunsAgree
runs_are scripts = record {
  turns = λ f n none. (all_agree n f (Quiet none)).same;
  states =
      λ image lines answers calls n.
      ap (λ (f : Feed Coding). f.machine)
      (all_agree n (beginning no_code image lines answers calls)
      (Quiet (begins_quiet image lines answers calls))).same
      ∙ scripts image lines answers calls n;
}
