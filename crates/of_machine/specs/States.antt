-- The machine's states, and what each of its calls makes of them. They are the same whether the code of definitions is
-- structured bodies or their cells.
use Rattle.std.specs.Prelude.{◌≡◌, ◌≤◌, ◌⊎◌, ℕ, ◌+◌, ◌-◌, ◌^◌, Bool, true, false, List, [], ◌∷◌, ◌++◌, length}
use Rattle.std.specs.Prelude.{Option, Some, None}
use Rattle.std.specs.Prelude.{nat_lt, ◌&&◌, is_none, is_ok, is_some, if◌then◌else◌}
use Rattle.of_asking.specs.Questions.{fits}
use Rattle.of_asking.specs.declared.query.Answer.{Answer}
use Rattle.of_asking.specs.declared.query.Query.{Query}
use Rattle.of_stream.specs.declared.fault.StreamFault.{StreamFault}
use Rattle.of_stream.specs.Image.{header_fault}
use Rattle.of_nodes.specs.declared.phandles.Phandle.{Phandle}
use Rattle.of_nodes.specs.Lookup.{found}
use Rattle.of_nodes.specs.Nodes.{phandle_of}
use Rattle.of_client.specs.Services.{Reply, Service, reply_to}
use Rattle.of_client.specs.declared.calls.ClientReply.{ClientReply}
use Rattle.of_compile.specs.Coding.{Coding}
use Rattle.of_compile.specs.Structured.{Definitions, flat_of}
use Rattle.of_state.specs.State.{Calls, State, flat_calls}
use Rattle.of_steps.specs.Steps.{answered as eval_answered, asked_by, due_grows, stepped, steps_from}
use Rattle.of_memory.specs.Growth.{image_fits}
use Rattle.of_state.specs.Loading.{begun, first_state, instance_on, line_begun}
use Rattle.of_eval_laws.specs.Structured.{flat_state, no_definitions}
use Rattle.of_machine.specs.declared.answers.Progress.{Progress}
use Rattle.of_machine.specs.declared.answers.Progress.TheVariants.{Asks, Done, Ended}
use Rattle.of_refusal.specs.declared.refusal.Refusal.{Refusal}
use Rattle.of_refusal.specs.declared.refusal.Refusal.TheVariants.{Busy, ImageTooLong, BadStart, NoNode, NoMemory}
use Rattle.of_refusal.specs.declared.refusal.Refusal.TheVariants.{LineTooLong, NotAsked, WrongAnswer}

-- code is an S
pub record MachineState (S : Type 0) : Type 0 where
  -- what words work on, where control is, words and code
  pub eval : State S
  -- how many steps were made
  pub steps : ℕ
  -- what clients were answered, the first first
  pub replies : List Reply
  -- what was asked, the first first
  pub asked : List Query
  -- the question that is open: the last that was asked
  pub waiting : Option Query

-- a machine as it is made
abbrev pub idle : {S : Type 0} → S → MachineState S
idle code = record { eval = first_state code; steps = 0; replies = []; asked = []; waiting = None }

-- the machine with its definitions as cells
abbrev pub flat_machine : MachineState Definitions → MachineState Coding
flat_machine m = record {
  eval = flat_state m.eval;
  steps = m.steps;
  replies = m.replies;
  asked = m.asked;
  waiting = m.waiting;
}

-- the cells of no definitions
abbrev pub no_code : Coding
no_code = flat_of no_definitions

-- a machine over cells as it is made
abbrev pub first_machine : MachineState Coding
first_machine = flat_machine (idle no_definitions)

-- ---- a step

-- something runs
abbrev pub is_running : {S : Type 0} → MachineState S → Bool
is_running m = m.eval.flow.is_running

-- whether a step can be made: something runs, and the steps can be counted
abbrev pub can_step : {S : Type 0} → MachineState S → Bool
can_step m = is_running m && nat_lt m.steps (2 ^ 64 - 1)

-- one step
abbrev pub moved : {S : Type 0} → Calls S → MachineState S → MachineState S
moved c m = record m { eval = stepped c m.eval; steps = m.steps + 1 }

-- a step that asks isn't made: its question is open, and all else is as it was
abbrev pub opened : {S : Type 0} → Query → MachineState S → MachineState S
opened q m = record m { asked = m.asked ++ q ∷ []; waiting = Some q }

-- the step that asked, made with an answer (IEEE 1275-1994, 5.3.7.3)
abbrev pub answered : {S : Type 0} → Calls S → Answer → MachineState S → MachineState S
answered c answer m =
    record m { eval = eval_answered c answer m.eval; steps = m.steps + 1; waiting = None }

-- what a step makes of a machine, by its question if it asks
abbrev pub made_or_opened : {S : Type 0} → Calls S → Option Query → MachineState S → MachineState S
made_or_opened c None m = moved c m
made_or_opened c (Some q) m = opened q m

-- the same, while none is open; an open one stays open
abbrev pub tried : {S : Type 0} → Calls S → Option Query → MachineState S → MachineState S
tried c None m = made_or_opened c (asked_by c m.eval) m
tried c (Some q) m = m

-- the question of the step, where one can be made: the open one, or the one that it asks
abbrev pub question : {S : Type 0} → Calls S → Option Query → MachineState S → Option Query
question c (Some q) m = Some q
question c None m = asked_by c m.eval

-- what an answer of `step` says of the states before and after
abbrev pub Steps : Progress → MachineState Coding → MachineState Coding → Type 0
Steps Done old new =
    (can_step old ≡ true) × (question flat_calls old.waiting old ≡ None) × (new ≡ moved flat_calls old)
Steps (Asks q) old new =
    (can_step old ≡ true) × (question flat_calls old.waiting old ≡ Some q) × (new ≡ tried flat_calls old.waiting old)
Steps Ended old new = (can_step old ≡ false) × (new ≡ old)

-- something grows by the token or item that comes next, or by its question
abbrev pub MayGrow : MachineState Coding → Type 0
MayGrow m =
    (due_grows flat_calls m.eval.flow.next m.eval ≡ true) ⊎ (is_some (asked_by flat_calls m.eval) ≡ true)

-- as many steps were made as were counted, no client was answered, and nothing asked
abbrev pub HasMoved : MachineState Coding → MachineState Coding → Type 0
HasMoved old new =
    (old.steps ≤ new.steps) × (steps_from flat_calls (new.steps - old.steps) old.eval ≡ Some new.eval)
    × (new.replies ≡ old.replies) × (new.asked ≡ old.asked) × (new.waiting ≡ old.waiting)

-- whether a step is made now: one can be, no question is open, and it doesn't ask
abbrev pub goes_on : {S : Type 0} → Calls S → MachineState S → Bool
goes_on c m = can_step m && is_none (question c m.waiting m)

-- ---- answers

-- why an answer is refused, if it is: no question is open, or it doesn't fit that one
abbrev pub fit_of : Bool → Option Refusal
fit_of fits = if fits then None else Some WrongAnswer

abbrev pub answer_refusal : Option Query → Answer → Option Refusal
answer_refusal None answer = Some NotAsked
answer_refusal (Some q) answer = fit_of (fits q answer)

-- a machine with an answer, unless it is refused
abbrev pub answered_unless : {S : Type 0} → Calls S → Option Refusal → Answer → MachineState S → MachineState S
answered_unless c None answer m = answered c answer m
answered_unless c (Some e) answer m = m

-- ---- clients

-- what a client sees of a reply
abbrev pub reply_shown : ClientReply → Reply
reply_shown r = (r.number, r.bytes.items)

-- a machine that has answered a client's question between two steps (IEEE 1275-1994, 6.3.2)
abbrev pub served : {S : Type 0} → MachineState S → Service → MachineState S
served m service =
    let board = m.eval.board in
    record m { replies = m.replies ++ reply_to board.memory board.tree board.instances service ∷ [] }

-- ---- loading

-- a machine with an image that has just been loaded for a node
abbrev pub loaded : {S : Type 0} → MachineState S → List ℕ → Phandle → MachineState S
loaded m image node = record m { eval = begun image node m.eval }

-- the node at a path, if there is one
abbrev pub node_at : {S : Type 0} → MachineState S → List ℕ → Option Phandle
node_at m path = found m.eval.board.memory m.eval.board.tree path

-- a machine with an image that has just been loaded for the node that was found
abbrev pub loaded_for : {S : Type 0} → MachineState S → List ℕ → Option Phandle → MachineState S
loaded_for m image (Some node) = loaded m image node
loaded_for m image None = m

-- `/slot`, the third node that is made
abbrev pub slot : Phandle
slot = phandle_of 2

abbrev pub start_refusal : Option StreamFault → Option Refusal
start_refusal (Some f) = Some (BadStart f)
start_refusal None = None

-- why an image is refused, if it is: its length, then its header
abbrev pub image_refusal : List ℕ → Option Refusal
image_refusal image = if nat_lt 0x40000 (length image) then Some ImageTooLong else start_refusal (header_fault image)

-- no image is loaded for a node that isn't there
abbrev pub node_refusal : Option Phandle → Option Refusal
node_refusal (Some node) = None
node_refusal None = Some NoNode

-- an image that finds no room beside others is too long, too
abbrev pub room_refusal : Bool → Option Refusal
room_refusal fits = if fits then None else Some ImageTooLong

-- nor is one for a node whose instance finds no room
abbrev pub instance_refusal : {S : Type 0} → MachineState S → Option Phandle → Option Refusal
instance_refusal m None = None
instance_refusal m (Some node) = if is_ok (instance_on node m.eval.board) then None else Some NoNode

-- the first reason of two
abbrev pub or_next : Option Refusal → Option Refusal → Option Refusal
or_next (Some e) next = Some e
or_next None next = next

-- why an image is refused for a node that is there, memory and its instance aside: its room
abbrev pub fit_refusal : {S : Type 0} → MachineState S → List ℕ → Option Refusal
fit_refusal m image = room_refusal (image_fits m.eval.board.memory (length image))

-- why a load is refused, memory and the instance aside: the first of busy, the image, the node and the room
abbrev pub first_refusal : {S : Type 0} → MachineState S → List ℕ → List ℕ → Option Refusal
first_refusal m image path =
    if is_running m then Some Busy
    else or_next (image_refusal image) (or_next (node_refusal (node_at m path)) (fit_refusal m image))

-- why a load is refused, memory aside
abbrev pub load_refusal : {S : Type 0} → MachineState S → List ℕ → List ℕ → Option Refusal
load_refusal m image path = or_next (first_refusal m image path) (instance_refusal m (node_at m path))

-- ---- console lines

-- how many bytes a line has at most
abbrev pub longest_line : ℕ
longest_line = 255

-- a machine to which a line has just been handed in
abbrev pub lined : {S : Type 0} → MachineState S → List ℕ → MachineState S
lined m text = record m { eval = line_begun text m.eval }

-- why a line is refused, memory aside
abbrev pub line_refusal : {S : Type 0} → MachineState S → List ℕ → Option Refusal
line_refusal m text =
    if is_running m then Some Busy else if nat_lt longest_line (length text) then Some LineTooLong else None

-- ---- refusals

-- a refusal is for that reason, or for memory where there is no other
abbrev pub Refuses : Option Refusal → Refusal → Type 0
Refuses reason e = (reason ≡ Some e) ⊎ ((reason ≡ None) × (e ≡ NoMemory))

-- a refusal is for a reason, or for memory where none of the first ones holds
abbrev pub RefusesBefore : Option Refusal → Option Refusal → Refusal → Type 0
RefusesBefore first reason e = (reason ≡ Some e) ⊎ ((first ≡ None) × (e ≡ NoMemory))
