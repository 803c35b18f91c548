-- A machine by what is done to it: each call is an event, and one that is refused changes nothing.
use Rattle.std.specs.Prelude.{◌≡◌, ℕ, ◌-◌, ◌^◌, ◌<◌, List, [], ◌∷◌, Option, Some, None, replicate, if◌then◌else◌}
use Rattle.of_asking.specs.declared.query.Answer.{Answer}
use Rattle.of_client.specs.Services.{Service}
use Rattle.of_compile.specs.Structured.{flat_of}
use Rattle.of_compile.specs.Coding.{Coding}
use Rattle.of_state.specs.State.{Calls, flat_calls}
use Rattle.of_eval_laws.specs.Structured.{structured_calls, no_definitions}
use Rattle.of_refusal.specs.declared.refusal.Refusal.{Refusal}
use Rattle.of_machine.specs.States.{HasMoved, MachineState, answer_refusal, answered_unless, can_step, flat_machine}
use Rattle.of_machine.specs.States.{idle, line_refusal, lined, load_refusal, loaded_for, node_at, served, tried}

pub data Event : Type 0 where
  -- an image is loaded for the package at a path
  Load : List ℕ → List ℕ → Event
  -- a console line is handed in
  Line : List ℕ → Event
  -- a step is made
  Step : Event
  -- a question is answered
  Answers : Answer → Event
  -- a client is answered
  Client : Service → Event

-- a machine with an image for the package at a path, unless it is refused
abbrev pub loaded_unless : {S : Type 0} → Option Refusal → MachineState S → List ℕ → List ℕ → MachineState S
loaded_unless (Some e) m image path = m
loaded_unless None m image path = loaded_for m image (node_at m path)

-- a machine with a console line, unless it is refused
abbrev pub lined_unless : {S : Type 0} → Option Refusal → MachineState S → List ℕ → MachineState S
lined_unless (Some e) m text = m
lined_unless None m text = lined m text

-- what an event makes of a machine
abbrev pub done_by : {S : Type 0} → Calls S → Event → MachineState S → MachineState S
done_by c (Load image path) m = loaded_unless (load_refusal m image path) m image path
done_by c (Line text) m = lined_unless (line_refusal m text) m text
done_by c Step m = if can_step m then tried c m.waiting m else m
done_by c (Answers answer) m = answered_unless c (answer_refusal m.waiting answer) answer m
done_by c (Client service) m = served m service

-- a machine after these events, the latest first
unfoldable pub after_events : {S : Type 0} → Calls S → List Event → MachineState S → MachineState S
after_events c [] m = m
after_events c (e ∷ es) m = done_by c e (after_events c es m)

-- What the calls of a machine come to.
pub record CallsAgree : Type 0 where
  -- A new machine over cells is after any events the abstract machine after them, whose definitions are structured
  -- bodies, with these laid out.
  pub events :
      (es : List Event) →
      after_events flat_calls es (idle (flat_of no_definitions))
      ≡ flat_machine (after_events structured_calls es (idle no_definitions))
  -- A machine that has moved by so many steps is where so many events of a step lead, if no question was open.
  pub steps :
      (old new : MachineState Coding) → old.waiting ≡ None → HasMoved old new → new.steps < 2 ^ 64 →
      new ≡ after_events flat_calls (replicate (new.steps - old.steps) Step) old
