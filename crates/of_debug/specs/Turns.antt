-- The undisturbed run of a machine, turn by turn, from any state, also from one with a question open.
use Rattle.std.specs.Prelude.{ℕ, zero, suc, ◌≡◌, ◌≤◌, ◌-◌, ◌⊎◌, ◌+◌, true, List, map, Option, Some, None}
use Rattle.std.specs.Prelude.{if◌then◌else◌}
use Rattle.of_asking.specs.declared.query.Answer.{Answer}
use Rattle.of_asking.specs.declared.query.Query.{Query}
use Rattle.of_client.specs.Services.{service_of}
use Rattle.of_client.specs.declared.calls.ClientCall.{ClientCall}
use Rattle.of_compile.specs.Coding.{Coding}
use Rattle.of_machine.specs.Runs.{Due, Feed, asking, fitting, settled, told, turned}
use Rattle.of_machine.specs.States.{MachineState, can_step}
use Rattle.of_state.specs.State.{Calls, flat_calls}
use Rattle.of_steps.specs.Steps.{asked_by}

-- what a client asks once so many steps are made, counted from one on
abbrev pub due_from : ℕ → ℕ × ClientCall → Due
due_from began call = (began + call.0, service_of call.1)

-- a feed, and how many steps its machine had made when it was handed over
pub record Handed : Type 0 where
  pub feed : Feed Coding
  pub began : ℕ

-- what is handed in to a machine as a run goes on
abbrev pub handed_over : MachineState Coding → List (List ℕ) → List Answer → List (ℕ × ClientCall) → Handed
handed_over m lines answers calls = record {
  feed = record { machine = m; lines = lines; answers = answers; calls = map (due_from m.steps) calls };
  began = m.steps;
}

-- A step is made, and what is due behind it is handed in. One whose question is open is made with the next answer, if
-- that fits.
abbrev pub resumed : {S : Type 0} → Calls S → Option Query → Feed S → Feed S
resumed c None f = turned c (asked_by c f.machine.eval) f
resumed c (Some q) f = told c (fitting q f.answers) f

-- a turn, where a step can be made
unfoldable pub turn : {S : Type 0} → Calls S → Feed S → Feed S
turn c f = if can_step f.machine then resumed c f.machine.waiting f else f

-- the run after n turns, or the last state that there is
unfoldable pub run : {S : Type 0} → Calls S → ℕ → Feed S → Feed S
run c zero f = f
run c (suc n) f = turn c (run c n f)

-- how many steps are made from one feed to another
abbrev pub between : Feed Coding → Feed Coding → ℕ
between f g = g.machine.steps - f.machine.steps

-- this feed, or it with the question of its next step open
abbrev pub IsAt : Feed Coding → Feed Coding → Type 0
IsAt f g =
    (g ≡ f)
    ⊎ ((q : Query) × (can_step f.machine ≡ true) × (f.machine.waiting ≡ None)
    × (asked_by flat_calls f.machine.eval ≡ Some q) × (g ≡ asking q f))

-- A feed of the undisturbed run s: the run after as many steps as were made, or that with its next question open.
abbrev pub Shows : Feed Coding → Feed Coding → Type 0
Shows s f = (s.machine.steps ≤ f.machine.steps) × IsAt (run flat_calls (between s f) s) f

-- it is one once what is due is handed in
abbrev pub Stands : Feed Coding → Feed Coding → Type 0
Stands s f = Shows s (settled f)
