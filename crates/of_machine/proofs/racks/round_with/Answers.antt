use Rattle.std.proofs.Common.{rules, ◌≡◌, ◌⊎◌, map, true, subst, sym}
use Rattle.of_asking.specs.declared.query.Query.{Query}
use Rattle.of_devices.specs.Racks.{Meant}
use Rattle.of_state.specs.State.{flat_calls}
use Rattle.of_machine.specs.declared.script_run.Advance.TheVariants.{Asks, Further, Over}
use Rattle.of_machine.specs.States.{MayGrow, answered}
use Rattle.of_machine.specs.Racks.{IsLeftWith, Rounds}
use Rattle.of_machine.specs.Runs.{Advances, settled}
use Rattle.of_machine.specs.Refused.{IsHeldAlone, IsHeldWith, IsUnserved}
use Rattle.of_machine.proofs.RefusedLemmas.{held_answered, held_silent}
use Rattle.of_machine.proofs.RackLemmas.{answered_with, goes_alone, left_alone, left_asked, on_err}
use Rattle.of_machine.proofs.racks.round_with.Goals as goal

-- ---- nothing is asked

pub returns-in-Further-clause-ok : goal.returns-in-Further-clause-ok
returns-in-Further-clause-ok g c =
    let f : _ → Meant = λ d. (goal.Device-dyn g (d.vtable, d.value)).meant d.value in
    let goes : Advances c.args.limit Further c.args.run.now c.advance.new.self = search rules in
    (goes_alone (map f c.args.rack.now.items) _ _ c.requires.none goes.0, goes.1, goes.2)

pub returns-in-Over-clause-ok : goal.returns-in-Over-clause-ok
returns-in-Over-clause-ok g c =
    let f : _ → Meant = λ d. (goal.Device-dyn g (d.vtable, d.value)).meant d.value in
    let goes : Advances c.args.limit Over c.args.run.now c.advance.new.self = search rules in
    (goes_alone (map f c.args.rack.now.items) _ _ c.requires.none goes.0, goes.1, goes.2)

pub returns-in_err-advance-clause-left : goal.returns-in_err-advance-clause-left
returns-in_err-advance-clause-left g c =
    let f : _ → Meant = λ d. (goal.Device-dyn g (d.vtable, d.value)).meant d.value in
    on_err _ (left_alone c.args.limit (map f c.args.rack.now.items) c.args.run.now c.requires.few)

-- ---- a question

pub returns-in_ok-answer-in-Asks-clause-ok : goal.returns-in_ok-answer-in-Asks-clause-ok
returns-in_ok-answer-in-Asks-clause-ok g c =
    let f : _ → Meant = λ d. (goal.Device-dyn g (d.vtable, d.value)).meant d.value in
    let ds = map f c.args.rack.now.items in
    let q : Query = c.in-Asks.query in
    let x = c.ask-answer.result in
    let asks : Advances c.args.limit (Asks q) c.args.run.now c.advance.new.self = search rules in
    let new = c.answer.new.self in
    let asked = c.advance.new.self in
    let told : new ≡ settled (record asked { machine = answered flat_calls x asked.machine }) = search rules in
    let done = answered_with ds c.args.run.now c.advance.new.self new q c.args.limit x c.requires.none asks
    c.ask-answer.ensures.answer c.ask-answer.ensures.fits told (search rules) in
    subst (λ es. Rounds c.args.limit true ds es c.args.run.now new) (sym c.ask-answer.ensures.told) done

pub returns-in_err-answer-in-Asks-clause-left : goal.returns-in_err-answer-in-Asks-clause-left
returns-in_err-answer-in-Asks-clause-left g c =
    let f : _ → Meant = λ d. (goal.Device-dyn g (d.vtable, d.value)).meant d.value in
    let ds = map f c.args.rack.now.items in
    let q : Query = c.in-Asks.query in
    let x = c.ask-answer.result in
    let asks : Advances c.args.limit (Asks q) c.args.run.now c.advance.new.self = search rules in
    let left = left_asked ds c.args.run.now c.advance.new.self q c.args.limit x c.requires.none asks
    c.ask-answer.ensures.answer c.ask-answer.ensures.fits in
    on_err _ (subst (λ es. IsLeftWith c.args.limit ds es c.args.run.now) (sym c.ask-answer.ensures.told) left)

-- ---- where memory is refused

pub returns-in_err-advance-clause-held : goal.returns-in_err-advance-clause-held
returns-in_err-advance-clause-held g c =
    let f : _ → Meant = λ d. (goal.Device-dyn g (d.vtable, d.value)).meant d.value in
    let held : IsHeldAlone c.args.limit c.args.run.now c.advance.new.self = search rules in
    on_err _ (held_silent c.args.limit (map f c.args.rack.now.items) _ _ c.requires.none held)

pub returns-in_err-answer-in-Asks-clause-held : goal.returns-in_err-answer-in-Asks-clause-held
returns-in_err-answer-in-Asks-clause-held g c =
    let f : _ → Meant = λ d. (goal.Device-dyn g (d.vtable, d.value)).meant d.value in
    let ds = map f c.args.rack.now.items in
    let q : Query = c.in-Asks.query in
    let x = c.ask-answer.result in
    let asks : Advances c.args.limit (Asks q) c.args.run.now c.advance.new.self = search rules in
    let asked = c.advance.new.self in
    let new = c.answer.new.self in
    let untold :
    ((new ≡ asked) × MayGrow asked.machine)
    ⊎ IsUnserved (settled (record asked { machine = answered flat_calls x asked.machine })) new = search rules in
    let held = held_answered c.args.limit ds c.args.run.now asked new q x c.requires.none asks
    c.ask-answer.ensures.answer c.ask-answer.ensures.fits untold in
    on_err _
    (subst (λ es. IsHeldWith c.args.limit ds es c.args.run.now new) (sym c.ask-answer.ensures.told) held)
