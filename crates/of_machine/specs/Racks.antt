-- Runs whose questions a rack of devices answers.
use Rattle.std.specs.Prelude.{◌≡◌, ◌⊎◌, ℕ, ◌+◌, ◌<◌, ◌≤◌, List, [], ◌∷◌, ◌++◌, Bool, true, false}
use Rattle.of_asking.specs.declared.query.Answer.{Answer}
use Rattle.of_asking.specs.declared.query.Query.{Query}
use Rattle.of_devices.specs.Racks.{Meant, rack_answer, rack_told, told_all}
use Rattle.of_compile.specs.Coding.{Coding}
use Rattle.of_state.specs.State.{flat_calls}
use Rattle.of_machine.specs.Runs.{Due, Feed, HasGone, States, after}
use Rattle.of_machine.specs.States.{can_step}

-- the answers of a rack to several questions, in their order
unfoldable pub answers_of : List Meant → List Query → List Answer
answers_of ds [] = []
answers_of ds (q ∷ qs) = rack_answer ds q ∷ answers_of (rack_told ds q) qs

-- A run for which no memory is found leaves a rack as the questions do that the abstract machine has asked after some
-- number of steps within the limit.
abbrev pub IsLeft : List ℕ → List (List ℕ) → List Due → ℕ → List Meant → List Meant → Type 0
IsLeft image lines calls limit old new =
    (n : ℕ) × (n ≤ limit) × (qs : List Query) × (new ≡ told_all old qs)
    × (qs ≡ (States image lines (answers_of old qs) calls n).asked)

-- ---- runs over cells, as they are made

-- A run went on from one feed to another, and the rack answered what was asked there.
abbrev pub HasGoneWith : List Meant → List Meant → Feed Coding → Feed Coding → Type 0
HasGoneWith ds es old new =
    (qs : List Query) × (es ≡ told_all ds qs) × (new.machine.asked ≡ old.machine.asked ++ qs)
    × HasGone (record old { answers = answers_of ds qs }) new × (new.answers ≡ [])

-- It went on, or it did, and no more steps can be made.
abbrev pub Rounds : ℕ → Bool → List Meant → List Meant → Feed Coding → Feed Coding → Type 0
Rounds limit true ds es old new =
    HasGoneWith ds es old new × (old.machine.steps < new.machine.steps) × (new.machine.steps ≤ limit)
Rounds limit false ds es old new =
    HasGoneWith ds es old new × (new.machine.steps ≤ limit)
    × ((new.machine.steps ≡ limit) ⊎ (can_step new.machine ≡ false))

-- No memory was found on its way, within the limit.
abbrev pub IsLeftWith : ℕ → List Meant → List Meant → Feed Coding → Type 0
IsLeftWith limit ds es old =
    (n : ℕ) × (old.machine.steps + n ≤ limit) × (qs : List Query) × (es ≡ told_all ds qs)
    × ((after flat_calls n (record old { answers = answers_of ds qs })).machine.asked ≡ old.machine.asked ++ qs)
