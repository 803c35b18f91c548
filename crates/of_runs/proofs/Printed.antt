-- What a run has printed stays while it goes on.
use Rattle.std.proofs.Common.{◌≡◌, ◌⊎◌, inl, inr, ℕ, zero, suc, Bool, true, false, List, [], ◌∷◌, ◌++◌, Option}
use Rattle.std.proofs.Common.{Some, None, refl, sym, ap, ◌∙◌, subst, drop}
use Rattle.std.proofs.lemmas.List.{append_assoc, append-nil}
use Rattle.std.specs.Prelude.{if◌then◌else◌, is_none, nat_le, ◌&&◌}
use Rattle.of_asking.specs.declared.query.Answer.{Answer}
use Rattle.of_asking.specs.declared.query.Query.{Query}
use Rattle.of_compile.specs.Coding.{Coding}
use Rattle.of_devices.specs.Racks.{Meant}
use Rattle.of_machine.specs.Racks.{HasGoneWith}
use Rattle.of_machine.specs.Runs.{Due, Feed, HasGone, IsOver, after, asking, caught_up, clients_heard, fed_by, fitting}
use Rattle.of_machine.specs.Runs.{next, settled, told, turned}
use Rattle.of_machine.specs.States.{MachineState, answered, can_step, is_running, moved, served}
use Rattle.of_print_laws.specs.Printed.{Begins, PrintedStays, output}
use Rattle.of_runs.specs.Runs.{console_of}
use Rattle.of_state.specs.State.{State, flat_calls}
use Rattle.of_steps.specs.Steps.{asked_by}

-- ---- one text that begins another

begins_refl : (a : List ℕ) → Begins a a
begins_refl a = ([], sym (append-nil a))

begins_trans : (a b c : List ℕ) → Begins a b → Begins b c → Begins a c
begins_trans a b c x y = (x.0 ++ y.0, y.1 ∙ ap (λ t. t ++ y.0) x.1 ∙ append_assoc a x.0 y.0)

-- ---- between two steps

same_eval : (m : MachineState Coding) (calls : List Due) → (caught_up m calls).0.eval ≡ m.eval
same_eval m [] = refl
same_eval m (call ∷ calls) = same_if (nat_le call.0 m.steps) m call calls (same_eval (served m call.1) calls)
  where
    same_if : (b : Bool) (m : MachineState Coding) (call : Due) (calls : List Due)
        → (caught_up (served m call.1) calls).0.eval ≡ m.eval
        → (if b then caught_up (served m call.1) calls else (m, call ∷ calls)).0.eval ≡ m.eval
    same_if true m call calls h = h
    same_if false m call calls h = refl

fed_prints : PrintedStays Coding → (b : Bool) (lines : List (List ℕ)) (f : Feed Coding)
    → console_of (fed_by b lines f).machine ≡ console_of f.machine
fed_prints stays true lines f = refl
fed_prints stays false [] f = refl
fed_prints stays false (line ∷ lines) f = stays.line line f.machine.eval

settled_prints : PrintedStays Coding → (f : Feed Coding)
    → console_of (settled f).machine ≡ console_of f.machine
settled_prints stays f =
    let heard = clients_heard f in
    fed_prints stays (is_running heard.machine) heard.lines heard
    ∙ ap (λ (s : State Coding). output s) (same_eval f.machine f.calls)

-- ---- a turn

told_prints : PrintedStays Coding → (o : Option Answer) (f : Feed Coding)
    → Begins (console_of f.machine) (console_of (told flat_calls o f).machine)
told_prints stays None f = begins_refl (console_of f.machine)
told_prints stays (Some answer) f =
    let g : Feed Coding = record f { machine = answered flat_calls answer f.machine; answers = drop 1 f.answers } in
    subst (λ (t : List ℕ). Begins (console_of f.machine) t) (sym (settled_prints stays g))
    (stays.answered flat_calls answer f.machine.eval)

turned_prints : PrintedStays Coding → (o : Option Query) (f : Feed Coding)
    → Begins (console_of f.machine) (console_of (turned flat_calls o f).machine)
turned_prints stays None f =
    let g : Feed Coding = record f { machine = moved flat_calls f.machine } in
    subst (λ (t : List ℕ). Begins (console_of f.machine) t) (sym (settled_prints stays g))
    (stays.step flat_calls f.machine.eval)
turned_prints stays (Some q) f = told_prints stays (fitting q f.answers) (asking q f)

turned_if : PrintedStays Coding → (b : Bool) (o : Option Query) (f : Feed Coding)
    → Begins (console_of f.machine) (console_of (if b then turned flat_calls o f else f).machine)
turned_if stays true o f = turned_prints stays o f
turned_if stays false o f = begins_refl (console_of f.machine)

next_prints : PrintedStays Coding → (f : Feed Coding)
    → Begins (console_of f.machine) (console_of (next flat_calls f).machine)
unfolding next
next_prints stays f =
    turned_if stays (can_step f.machine && is_none f.machine.waiting) (asked_by flat_calls f.machine.eval) f

-- ---- turns

after_prints : PrintedStays Coding → (n : ℕ) (f : Feed Coding)
    → Begins (console_of f.machine) (console_of (after flat_calls n f).machine)
unfolding after
after_prints stays zero f = begins_refl (console_of f.machine)
after_prints stays (suc n) f =
    let g = after flat_calls n f in
    begins_trans (console_of f.machine) (console_of g.machine) (console_of (next flat_calls g).machine)
    (after_prints stays n f) (next_prints stays g)

reached : PrintedStays Coding → (n : ℕ) (f g : Feed Coding) → after flat_calls n f ≡ g
    → Begins (console_of f.machine) (console_of g.machine)
reached stays n f g e =
    subst (λ (x : Feed Coding). Begins (console_of f.machine) (console_of x.machine)) e (after_prints stays n f)

gone_prints : PrintedStays Coding → (f g : Feed Coding) → HasGone f g
    → Begins (console_of f.machine) (console_of g.machine)
gone_prints stays f g gone = reached stays _ f g gone.1

-- what was printed before a stretch begins what was printed behind it
pub over_prints : PrintedStays Coding → (limit : ℕ) (f g : Feed Coding) → IsOver limit f g
    → Begins (console_of f.machine) (console_of g.machine)
over_prints stays limit f g (inl x) = gone_prints stays f g x.0
over_prints stays limit f g (inr x) = reached stays _ f g x.3

pub rack_prints : PrintedStays Coding → (ds es : List Meant) (f g : Feed Coding) → HasGoneWith ds es f g
    → Begins (console_of f.machine) (console_of g.machine)
rack_prints stays ds es f g gone = reached stays _ _ g gone.3.1
