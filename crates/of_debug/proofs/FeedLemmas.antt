-- What is handed in to a machine, and that nothing is handed in twice.
use Rattle.std.proofs.Common.{◌≡◌, ◌⊎◌, inl, inr, ℕ, ◌+◌, Bool, true, false, List, [], ◌∷◌, refl, ap}
use Rattle.std.proofs.Common.{sym, subst, ◌∙◌, nat_le, arith}
use Rattle.std.proofs.lemmas.Bool.{leb-false}
use Rattle.std.proofs.lemmas.Bool.Decides.{nat_tests}
use Rattle.std.specs.Prelude.{if◌then◌else◌, ◌<◌, ◌≤◌, ◌-◌}
use Rattle.of_compile.specs.Coding.{Coding}
use Rattle.of_machine.specs.States.{MachineState, is_running, served}
use Rattle.of_machine.specs.Runs.{AreLater, Due, Feed, IsFed, caught_up, clients_heard, fed, fed_by, settled}
use Rattle.of_machine.specs.Refused.{HasDue, has_line, is_first_due}
use Rattle.of_debug.specs.Stops.{DueIsLeft}

-- ---- clients

-- one is due by the steps from one on, or by all of them
pub due_since : (began due n : ℕ) → began ≤ n → nat_le due (n - began) ≡ nat_le (began + due) n
due_since began due n few = grind (arith, nat_tests)

left_by : (b : Bool) (m : MachineState Coding) (call : Due) (calls : List Due) → nat_le call.0 m.steps ≡ b
    → AreLater (caught_up (served m call.1) calls).0.steps (caught_up (served m call.1) calls).1
    → AreLater (if b then caught_up (served m call.1) calls else (m, call ∷ calls)).0.steps
    (if b then caught_up (served m call.1) calls else (m, call ∷ calls)).1
left_by true m call calls e more = more
left_by false m call calls e more = omega (arith, leb-false call.0 m.steps e)

-- those that are left are to be answered later
left_later : (m : MachineState Coding) (calls : List Due) → AreLater (caught_up m calls).0.steps (caught_up m calls).1
left_later m [] = tt
left_later m (call ∷ calls) =
    left_by (nat_le call.0 m.steps) m call calls refl (left_later (served m call.1) calls)

none_by : (b : Bool) (m : MachineState Coding) (call : Due) (calls : List Due) → nat_le call.0 m.steps ≡ b
    → m.steps < call.0
    → (if b then caught_up (served m call.1) calls else (m, call ∷ calls)) ≡ (m, call ∷ calls)
none_by true m call calls e later = absurd (grind (arith, nat_tests))
none_by false m call calls e later = refl

-- none is answered that is to be later
none_due : (m : MachineState Coding) (calls : List Due) → AreLater m.steps calls → caught_up m calls ≡ (m, calls)
none_due m [] later = refl
none_due m (call ∷ calls) later = none_by (nat_le call.0 m.steps) m call calls refl later

abbrev left_with : Feed Coding → MachineState Coding × List Due → Feed Coding
left_with f x = record f { machine = x.0; calls = x.1 }

-- who was answered isn't answered again
pub heard_again : (f : Feed Coding) → clients_heard (clients_heard f) ≡ clients_heard f
heard_again f =
    let x = caught_up f.machine f.calls in ap (λ y. left_with f y) (none_due x.0 x.1 (left_later f.machine f.calls))

steps_by : (b : Bool) (m : MachineState Coding) (call : Due) (calls : List Due)
    → (caught_up (served m call.1) calls).0 ≡ record m { replies = (caught_up (served m call.1) calls).0.replies }
    → (if b then caught_up (served m call.1) calls else (m, call ∷ calls)).0
    ≡ record m { replies = (if b then caught_up (served m call.1) calls else (m, call ∷ calls)).0.replies }
steps_by true m call calls h = h
steps_by false m call calls h = refl

-- clients see the machine as it was, but for their replies
same_machine : (m : MachineState Coding) (calls : List Due)
    → (caught_up m calls).0 ≡ record m { replies = (caught_up m calls).0.replies }
same_machine m [] = refl
same_machine m (call ∷ calls) =
    steps_by (nat_le call.0 m.steps) m call calls (same_machine (served m call.1) calls)

-- ---- lines

-- the line that is handed in changes no count, no question and nothing that is left but the lines
record IsLined (f g : Feed Coding) : Type 0 where
  steps : g.machine.steps ≡ f.machine.steps
  waiting : g.machine.waiting ≡ f.machine.waiting
  answers : g.answers ≡ f.answers
  calls : g.calls ≡ f.calls

lined_by : (b : Bool) (lines : List (List ℕ)) (f : Feed Coding) → IsLined f (fed_by b lines f)
lined_by true lines f = record { steps = refl; waiting = refl; answers = refl; calls = refl }
lined_by false [] f = record { steps = refl; waiting = refl; answers = refl; calls = refl }
lined_by false (line ∷ lines) f = record { steps = refl; waiting = refl; answers = refl; calls = refl }

lined_so : (f : Feed Coding) → IsLined f (fed f)
lined_so f = lined_by (is_running f.machine) f.lines f

-- and behind it something runs, or no line is left
fed_is : (f : Feed Coding) → IsFed (fed f)
fed_is f = by_case (is_running f.machine) f.lines f refl refl
  where
    by_case : (b : Bool) (lines : List (List ℕ)) (f : Feed Coding) → is_running f.machine ≡ b → f.lines ≡ lines
        → IsFed (fed_by b lines f)
    by_case true lines f e h = inl e
    by_case false [] f e h = inr h
    by_case false (line ∷ lines) f e h = inl refl

-- none is handed in while something runs, or where none is left
fed_so : (f : Feed Coding) → IsFed f → fed f ≡ f
fed_so f (inl runs) = ap (λ b. fed_by b f.lines f) runs
fed_so f (inr none) = ap (λ lines. fed_by (is_running f.machine) lines f) none ∙ nothing_left (is_running f.machine) f
  where
    nothing_left : (b : Bool) (f : Feed Coding) → fed_by b [] f ≡ f
    nothing_left true f = refl
    nothing_left false f = refl

-- ---- both

pub rests : (f : Feed Coding) → AreLater f.machine.steps f.calls → IsFed f → settled f ≡ f
rests f later full = ap (λ x. fed (left_with f x)) (none_due f.machine f.calls later) ∙ fed_so f full

pub settled_later : (f : Feed Coding) → AreLater (settled f).machine.steps (settled f).calls
settled_later f =
    let g = clients_heard f in
    let l = lined_so g in
    subst (λ n. AreLater n (settled f).calls) (sym l.steps)
    (subst (λ calls. AreLater g.machine.steps calls) (sym l.calls) (left_later f.machine f.calls))

pub settled_fed : (f : Feed Coding) → IsFed (settled f)
settled_fed f = fed_is (clients_heard f)

-- what is handed in isn't handed in again
pub settled_again : (f : Feed Coding) → settled (settled f) ≡ settled f
settled_again f = rests (settled f) (settled_later f) (settled_fed f)

-- behind clients that were answered the rest is handed in
pub settled_heard : (f g : Feed Coding) → g ≡ clients_heard f → settled g ≡ settled f
settled_heard f g e = ap settled e ∙ ap fed (heard_again f)

-- handing in makes no step and opens no question
pub settled_steps : (f : Feed Coding) → (settled f).machine.steps ≡ f.machine.steps
settled_steps f =
    (lined_so (clients_heard f)).steps
    ∙ ap (λ (m : MachineState Coding). m.steps) (same_machine f.machine f.calls)

pub settled_waiting : (f : Feed Coding) → (settled f).machine.waiting ≡ f.machine.waiting
settled_waiting f =
    (lined_so (clients_heard f)).waiting
    ∙ ap (λ (m : MachineState Coding). m.waiting) (same_machine f.machine f.calls)

pub settled_answers : (f : Feed Coding) → (settled f).answers ≡ f.answers
settled_answers f = (lined_so (clients_heard f)).answers

-- ---- what is due

no_line : (b : Bool) (lines : List (List ℕ)) → (b ≡ true) ⊎ (lines ≡ []) → has_line b lines ≡ true → ⊥
no_line true lines fed e = absurd cc
no_line false [] fed e = absurd cc
no_line false (line ∷ lines) (inl runs) e = absurd cc
no_line false (line ∷ lines) (inr none) e = absurd cc

not_first : (n : ℕ) (calls : List Due) → AreLater n calls → is_first_due calls n ≡ true → ⊥
not_first n [] later e = absurd cc
not_first n (call ∷ calls) later e = absurd (grind (arith, nat_tests))

-- is handed in
pub due_is_left : DueIsLeft
due_is_left = record { due = is_left }
  where
    is_left : (f : Feed Coding) → HasDue f → settled f ≡ f → ⊥
    is_left f (inl first) full =
        not_first f.machine.steps f.calls
        (subst (λ (x : Feed Coding). AreLater x.machine.steps x.calls) full (settled_later f)) first
    is_left f (inr line) full =
        no_line (is_running f.machine) f.lines (subst (λ x. IsFed x) full (settled_fed f)) line
