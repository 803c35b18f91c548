-- What goes out of a run while it goes on.
use Rattle.std.specs.Prelude.{◌≤◌, ℕ, List, [], Option}
use Rattle.std.specs.Io.KnownBytes.{Appends}
use Rattle.of_compile.specs.Coding.{Coding}
use Rattle.of_devices.specs.Racks.{Meant}
use Rattle.of_files.specs.declared.fault.Fault.{Fault}
use Rattle.of_machine.specs.Racks.{answers_of}
use Rattle.of_machine.specs.Runs.{Feed, RunsTo}
use Rattle.of_machine.specs.States.{MachineState}
use Rattle.of_machine.specs.Stretches.{Stretches, StretchesWith}
use Rattle.of_machine.specs.declared.answers.End.{End}
use Rattle.of_runs.specs.Runs.{CutsShort, console_of}

-- If all that was printed had gone out at one state of a run, it has at the other.
abbrev pub KeepsUp : Option (List ℕ) → Option (List ℕ) → Feed Coding → Feed Coding → Type 0
KeepsUp old new f g =
    (first : Option (List ℕ)) → Appends first old (console_of f.machine) → Appends first new (console_of g.machine)

-- if all had gone out at the one, then at the other this has, where the run is given up
abbrev pub FallsBehind : Option (List ℕ) → Option (List ℕ) → Feed Coding → Feed Coding → Fault → Type 0
FallsBehind old new f g x =
    (first : Option (List ℕ)) → Appends first old (console_of f.machine)
    → CutsShort first new (console_of g.machine) x

-- a stretch was made, and what it printed went out
abbrev pub Prints : ℕ → Feed Coding → Feed Coding → Option (List ℕ) → Option (List ℕ) → End → Type 0
Prints limit f g old new e = Stretches limit f g e × KeepsUp old new f g

-- or it was given up within its limit
abbrev pub Stops : ℕ → Feed Coding → Option (List ℕ) → Option (List ℕ) → Fault → Type 0
Stops limit f old new x =
    (n : ℕ) × (n ≤ limit) × (g : Feed Coding) × ((e : End) × Stretches n f g e) × FallsBehind old new f g x

-- the same where a rack answers
abbrev pub PrintsWith :
    ℕ → List Meant → List Meant → Feed Coding → Feed Coding → Option (List ℕ) → Option (List ℕ) → End → Type 0
PrintsWith limit ds es f g old new e = StretchesWith limit ds es f g e × KeepsUp old new f g

abbrev pub StopsWith : ℕ → List Meant → Feed Coding → Option (List ℕ) → Option (List ℕ) → Fault → Type 0
StopsWith limit ds f old new x =
    (n : ℕ) × (n ≤ limit) × (es : List Meant) × (g : Feed Coding) × ((e : End) × StretchesWith n ds es f g e)
    × FallsBehind old new f g x

-- ---- with what was printed before

-- a stretch was made, and all that the run had printed went out
abbrev pub PrintsAll : ℕ → Feed Coding → Feed Coding → Option (List ℕ) → Option (List ℕ) → End → Type 0
PrintsAll limit f g old new e = Stretches limit f g e × Appends old new (console_of g.machine)

-- or it was given up within its limit
abbrev pub StopsAll : ℕ → Feed Coding → Option (List ℕ) → Option (List ℕ) → Fault → Type 0
StopsAll limit f old new x =
    (n : ℕ) × (n ≤ limit) × (g : Feed Coding) × ((e : End) × Stretches n f g e)
    × CutsShort old new (console_of g.machine) x

-- the same where a rack answers
abbrev pub PrintsAllWith :
    ℕ → List Meant → List Meant → Feed Coding → Feed Coding → Option (List ℕ) → Option (List ℕ) → End → Type 0
PrintsAllWith limit ds es f g old new e = StretchesWith limit ds es f g e × Appends old new (console_of g.machine)

abbrev pub StopsAllWith : ℕ → List Meant → Feed Coding → Option (List ℕ) → Option (List ℕ) → Fault → Type 0
StopsAllWith limit ds f old new x =
    (n : ℕ) × (n ≤ limit) × (es : List Meant) × (g : Feed Coding) × ((e : End) × StretchesWith n ds es f g e)
    × CutsShort old new (console_of g.machine) x

-- the run of an image and of lines whose questions a rack answers
abbrev pub OnRack : List ℕ → List (List ℕ) → List Meant → ℕ → MachineState Coding → End → Type 0
OnRack image lines ds limit m e = RunsTo image lines (answers_of ds m.asked) [] limit m e
