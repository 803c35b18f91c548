-- Runs: a machine with what is still to be handed in to it, turn by turn.
use Rattle.std.specs.Prelude.{◌≡◌, ◌⊎◌, ℕ, zero, suc, ◌+◌, ◌-◌, ◌≤◌, ◌<◌, nat_le, nat_lt, List, [], ◌∷◌, drop, length}
use Rattle.std.specs.Prelude.{Bool, true, false}
use Rattle.std.specs.Prelude.{Option, Some, None, is_none, is_some, ◌&&◌, if◌then◌else◌}
use Rattle.of_asking.specs.Questions.{fits}
use Rattle.of_asking.specs.declared.query.Answer.{Answer}
use Rattle.of_asking.specs.declared.query.Query.{Query}
use Rattle.of_compile.specs.Coding.{Coding}
use Rattle.of_compile.specs.Structured.{Definitions, flat_of}
use Rattle.of_state.specs.State.{Calls, flat_calls}
use Rattle.of_steps.specs.Steps.{asked_by}
use Rattle.of_eval_laws.specs.Structured.{structured_calls, no_definitions}
use Rattle.of_stream.specs.Image.{header_fault}
use Rattle.of_client.specs.Services.{Service, service_of}
use Rattle.of_client.specs.declared.calls.ClientCall.{ClientCall}
use Rattle.of_machine.specs.declared.answers.End.{End}
use Rattle.of_machine.specs.declared.answers.End.TheVariants.{AnswersOut, Done, LimitReached}
use Rattle.of_machine.specs.declared.script_run.Advance.{Advance}
use Rattle.of_machine.specs.declared.script_run.Advance.TheVariants.{Asks, Further, Over}
use Rattle.of_refusal.specs.declared.refusal.Refusal.{Refusal}
use Rattle.of_refusal.specs.declared.refusal.Refusal.TheVariants.{ImageTooLong, LineTooLong}
use Rattle.of_machine.specs.States.{MachineState, answered, can_step, flat_machine, idle, is_running, lined, loaded}
use Rattle.of_machine.specs.States.{longest_line, moved, opened, or_next, served, slot, start_refusal}

-- what a client asks once so many steps are made
abbrev pub Due : Type 0
Due = ℕ × Service

abbrev pub due_of : ℕ × ClientCall → Due
due_of call = (call.0, service_of call.1)

-- a machine, and what clients ask, the answers and the console lines that are left
pub record Feed (S : Type 0) : Type 0 where
  pub machine : MachineState S
  pub lines : List (List ℕ)
  pub answers : List Answer
  pub calls : List Due

-- A client is answered as soon as its steps are made, and all clients before it are answered.
abbrev pub caught_up : {S : Type 0} → MachineState S → List Due → MachineState S × List Due
caught_up m [] = (m, [])
caught_up m (call ∷ calls) =
    if nat_le call.0 m.steps then caught_up (served m call.1) calls else (m, call ∷ calls)

abbrev pub clients_heard : {S : Type 0} → Feed S → Feed S
clients_heard f =
    let left = caught_up f.machine f.calls in
    record f { machine = left.0; calls = left.1 }

-- The next line is handed in as soon as nothing runs.
abbrev pub fed_by : {S : Type 0} → Bool → List (List ℕ) → Feed S → Feed S
fed_by true lines f = f
fed_by false [] f = f
fed_by false (line ∷ lines) f = record f { machine = lined f.machine line; lines = lines }

abbrev pub fed : {S : Type 0} → Feed S → Feed S
fed f = fed_by (is_running f.machine) f.lines f

-- both, between two steps
abbrev pub settled : {S : Type 0} → Feed S → Feed S
settled f = fed (clients_heard f)

-- a new machine over this code, on which an image has just been loaded for `/slot`
abbrev pub beginning : {S : Type 0} → S → List ℕ → List (List ℕ) → List Answer → List Due → Feed S
beginning code image lines answers calls =
    settled
    (record { machine = loaded (idle code) image slot; lines = lines; answers = answers; calls = calls })

-- the next answer, if it fits
abbrev pub fitting : Query → List Answer → Option Answer
fitting q [] = None
fitting q (answer ∷ answers) = if fits q answer then Some answer else None

-- the step whose question is open is made with the next answer, or the question stays open
abbrev pub told : {S : Type 0} → Calls S → Option Answer → Feed S → Feed S
told c (Some answer) f = settled (record f { machine = answered c answer f.machine; answers = drop 1 f.answers })
told c None f = f

-- a step asks
abbrev pub asking : {S : Type 0} → Query → Feed S → Feed S
asking q f = record f { machine = opened q f.machine }

-- a turn, by the question of its step, if that asks
abbrev pub turned : {S : Type 0} → Calls S → Option Query → Feed S → Feed S
turned c None f = settled (record f { machine = moved c f.machine })
turned c (Some q) f = told c (fitting q f.answers) (asking q f)

-- One turn of a run: a step, where one can be made and no question is open, and the clients that are to be answered
-- behind it.
unfoldable pub next : {S : Type 0} → Calls S → Feed S → Feed S
next c f =
    if can_step f.machine && is_none f.machine.waiting then turned c (asked_by c f.machine.eval) f else f

-- the run after n turns
unfoldable pub after : {S : Type 0} → Calls S → ℕ → Feed S → Feed S
after c zero f = f
after c (suc n) f = next c (after c n f)

-- whether a line is too long
abbrev pub has_long : List (List ℕ) → Bool
has_long [] = false
has_long (line ∷ lines) = if nat_lt longest_line (length line) then true else has_long lines

-- why an image and lines are refused, if they are: the length of the image, those of the lines, and the header
abbrev pub lines_refusal : List (List ℕ) → Option Refusal
lines_refusal lines = if has_long lines then Some LineTooLong else None

abbrev pub script_refusal : List ℕ → List (List ℕ) → Option Refusal
script_refusal image lines =
    if nat_lt 0x40000 (length image) then Some ImageTooLong
    else or_next (lines_refusal lines) (start_refusal (header_fault image))

-- The abstract machine, whose definitions are structured bodies: its state after n steps of the run of an image and of
-- the lines behind it, or the last state that there is, with its question open.
abbrev pub States : List ℕ → List (List ℕ) → List Answer → List Due → ℕ → MachineState Definitions
States image lines answers calls n =
    (after structured_calls n (beginning no_definitions image lines answers calls)).machine

-- What a run of at most `limit` steps answers: the machine is the abstract machine after its steps, with the
-- definitions laid out as cells. It is done where nothing runs and no line is left after at most that many steps.
-- Otherwise the limit was
-- reached, before a next question; or the answers are out, since that of an earlier step has no answer that fits.
abbrev pub RunsTo : List ℕ → List (List ℕ) → List Answer → List Due → ℕ → MachineState Coding → End → Type 0
RunsTo image lines answers calls limit m Done =
    (m ≡ flat_machine (States image lines answers calls m.steps)) × (is_running m ≡ false) × (m.steps ≤ limit)
RunsTo image lines answers calls limit m LimitReached =
    (m ≡ flat_machine (States image lines answers calls m.steps)) × (is_running m ≡ true) × (m.steps ≡ limit)
    × (m.waiting ≡ None)
RunsTo image lines answers calls limit m AnswersOut =
    (m ≡ flat_machine (States image lines answers calls (m.steps + 1))) × (is_some m.waiting ≡ true)
    × (m.steps < limit)

-- ---- runs over cells, as they are made

-- no client is to be answered now
abbrev pub AreLater : ℕ → List Due → Type 0
AreLater n [] = Unit {0}
AreLater n (call ∷ calls) = n < call.0

-- something runs, or no line is left
abbrev pub IsFed : Feed Coding → Type 0
IsFed f = (is_running f.machine ≡ true) ⊎ (f.lines ≡ [])

-- a feed from which a turn can be made: its clients are answered, no question is open, and its line is handed in
abbrev pub IsCalm : Feed Coding → Type 0
IsCalm f = AreLater f.machine.steps f.calls × (f.machine.waiting ≡ None) × IsFed f

-- no client is to be answered before so many steps are made
abbrev pub AreUpto : ℕ → List Due → Type 0
AreUpto n [] = Unit {0}
AreUpto n (call ∷ calls) = n ≤ call.0

-- the next answer, if it fits the question that is open
abbrev pub next_answer : Option Query → List Answer → Option Answer
next_answer None answers = None
next_answer (Some q) answers = fitting q answers

-- the step whose question is open was made with the next answer
abbrev pub IsTold : Feed Coding → Feed Coding → Type 0
IsTold old new =
    (answer : Answer) × (next_answer old.machine.waiting old.answers ≡ Some answer)
    × (new ≡ told flat_calls (Some answer) old) × IsCalm new

-- or there is none that fits
abbrev pub IsOut : Feed Coding → Feed Coding → Type 0
IsOut old new = (next_answer old.machine.waiting old.answers ≡ None) × (new ≡ old)

-- A run went on from one feed to another by as many turns as steps were made.
abbrev pub HasGone : Feed Coding → Feed Coding → Type 0
HasGone old new =
    (old.machine.steps ≤ new.machine.steps)
    × (after flat_calls (new.machine.steps - old.machine.steps) old ≡ new) × IsCalm new

-- It is over at the limit, or where no step can be made, or at a question for which there is no answer.
abbrev pub IsOver : ℕ → Feed Coding → Feed Coding → Type 0
IsOver limit old new =
    (HasGone old new × (new.machine.steps ≤ limit)
    × ((new.machine.steps ≡ limit) ⊎ (can_step new.machine ≡ false)))
    ⊎ ((old.machine.steps ≤ new.machine.steps) × (new.machine.steps < limit)
    × (is_some new.machine.waiting ≡ true)
    × (after flat_calls (new.machine.steps - old.machine.steps + 1) old ≡ new))

-- an advance of a run asked nothing
abbrev pub HasAdvanced : Feed Coding → Feed Coding → Type 0
HasAdvanced old new =
    HasGone old new × (new.machine.asked ≡ old.machine.asked) × (new.answers ≡ old.answers)

-- It went on, within the limit; or it did, and no more steps can be made; or so it did, and the next step asks.
abbrev pub Advances : ℕ → Advance → Feed Coding → Feed Coding → Type 0
Advances limit Further old new =
    HasAdvanced old new × (old.machine.steps < new.machine.steps) × (new.machine.steps ≤ limit)
Advances limit Over old new =
    HasAdvanced old new × (new.machine.steps ≤ limit)
    × ((new.machine.steps ≡ limit) ⊎ (can_step new.machine ≡ false))
Advances limit (Asks q) old new =
    (f : Feed Coding) × HasAdvanced old f × (f.machine.steps < limit) × (can_step f.machine ≡ true)
    × (asked_by flat_calls f.machine.eval ≡ Some q) × (new ≡ asking q f)

-- whether a run goes on where nothing runs: with the next line
abbrev pub line_left : List (List ℕ) → Advance
line_left [] = Over
line_left (line ∷ lines) = Further

-- how a run ended, by the question that is open and whether something runs
abbrev pub end_of : Option Query → Bool → End
end_of (Some q) runs = AnswersOut
end_of None runs = if runs then LimitReached else Done

-- A run over the cells of definitions is the abstract machine's, laid out, after each number of turns.
abbrev pub RunsAgree : Type 0
RunsAgree =
    (image : List ℕ) (lines : List (List ℕ)) (answers : List Answer) (calls : List Due) (n : ℕ) →
    (after flat_calls n (beginning (flat_of no_definitions) image lines answers calls)).machine
    ≡ flat_machine (States image lines answers calls n)
