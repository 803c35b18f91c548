-- A machine on its board: what it asks is answered by devices (IEEE 1275-1994, 5.3.7).
use Rattle.std.specs.Prelude.{ℕ, zero, suc, ◌≡◌, ◌<◌, ◌⊎◌, List, Option, Some, None}
use Rattle.of_asking.specs.declared.query.Query.{Query}
use Rattle.of_compile.specs.Coding.{Coding}
use Rattle.of_devices.specs.Racks.{Meant, rack_answer, rack_told}
use Rattle.of_state.specs.State.{Calls, flat_calls}
use Rattle.of_machine.specs.Events.{Answers, Step, done_by}
use Rattle.of_machine.specs.States.{MachineState, MayGrow}

-- a machine, and what its devices mean
abbrev pub Attended : Type 0 → Type 0
Attended S = MachineState S × List Meant

-- The question that is open, if one is, is answered by the devices, which are told it.
abbrev pub answered_by : {S : Type 0} → Calls S → List Meant → Option Query → MachineState S → Attended S
answered_by c ds None m = (m, ds)
answered_by c ds (Some q) m = (done_by c (Answers (rack_answer ds q)) m, rack_told ds q)

-- a step; one that asks is made with the answer
abbrev pub turn : {S : Type 0} → Calls S → Attended S → Attended S
turn c x = let m = done_by c Step x.0 in answered_by c x.1 m.waiting m

-- so many steps; where nothing runs, none is made
unfoldable pub turns : {S : Type 0} → Calls S → ℕ → Attended S → Attended S
turns c zero x = x
turns c (suc n) x = turn c (turns c n x)

-- ---- where memory is refused

-- a question is open that a step asks, and the devices are told it
abbrev pub IsAsked : Attended Coding → Attended Coding → Type 0
IsAsked x y =
    (q : Query) × ((done_by flat_calls Step x.0).waiting ≡ Some q)
    × (y ≡ (done_by flat_calls Step x.0, rack_told x.1 q))

-- Memory was refused: fewer turns were made than may be, and the next, which may grow, wasn't; of that its question may
-- be open.
pub record IsHeld (limit : ℕ) (x y : Attended Coding) : Type 0 where
  pub made : ℕ
  pub few : made < limit
  pub grows : MayGrow (turns flat_calls made x).0
  pub at : (y ≡ turns flat_calls made x) ⊎ IsAsked (turns flat_calls made x) y
