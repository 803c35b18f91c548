use Rattle.std.proofs.Common.{rules, ◌≡◌, ◌<◌, ◌≤◌, ◌-◌, ◌+◌, ◌∙◌, None, Some, false, List, map, ap, sym, subst}
use Rattle.of_compile.specs.Coding.{Coding}
use Rattle.of_devices.specs.Racks.{Meant, rack_answer, rack_told}
use Rattle.of_machine.specs.Events.{Answers, Step, done_by}
use Rattle.of_machine.specs.States.{MachineState, MayGrow, Steps, can_step}
use Rattle.of_machine.specs.declared.answers.Progress.TheVariants.{Asks}
use Rattle.of_state.specs.State.{flat_calls}
use Rattle.of_monitor.specs.Turns.{IsHeld, turn, turns}
use Rattle.of_monitor.proofs.TurnLemmas.{asking_turn, asks_grow, held_asked, held_here, moved_turns, none_left}
use Rattle.of_monitor.proofs.TurnLemmas.{on_err, one_more}
use Rattle.of_monitor.proofs.attending.go_on.Goals as goal

pub returns-in_err-ran-clause-held : goal.returns-in_err-ran-clause-held
returns-in_err-ran-clause-held g c =
    let old = c.args.machine.now in
    let new = c.run-ran.new.self in
    let few : new.steps < 18446744073709551616 = search rules in
    let most : new.steps - old.steps < c.args.left = search rules in
    let grows : MayGrow new = search rules in
    let f : _ → Meant = λ d. (goal.Device-dyn g (d.vtable, d.value)).meant d.value in
    let ds = map f c.args.rack.now.items in
    on_err c.from_residual.result
    (held_here c.args.left (new.steps - old.steps) (old, ds) (new, ds) most
    (moved_turns old new ds c.calls_agree.ensures c.requires.calm c.run-ran.ensures.steps few) grows)

pub returns-then-rest-eq0-clause-turns : goal.returns-then-rest-eq0-clause-turns
returns-then-rest-eq0-clause-turns g c =
    let old = c.args.machine.now in
    let new = c.run-ran.new.self in
    let few : new.steps < 18446744073709551616 = search rules in
    let all : new.steps - old.steps ≡ c.args.left - 0 = search rules in
    let f : _ → Meant = λ d. (goal.Device-dyn g (d.vtable, d.value)).meant d.value in
    let ds = map f c.args.rack.now.items in
    sym (moved_turns old new ds c.calls_agree.ensures c.requires.calm c.run-ran.ensures.steps few)
    ∙ ap (λ n. turns flat_calls n (old, ds)) all

pub returns-in_err-step-clause-held : goal.returns-in_err-step-clause-held
returns-in_err-step-clause-held g c =
    let old = c.args.machine.now in
    let new = c.run-ran.new.self in
    let last = c.step.new.self in
    let few : new.steps < 18446744073709551616 = search rules in
    let most : new.steps - old.steps < c.args.left = search rules in
    let grows : MayGrow new = search rules in
    let same : new ≡ last = search rules in
    let f : _ → Meant = λ d. (goal.Device-dyn g (d.vtable, d.value)).meant d.value in
    let ds = map f c.args.rack.now.items in
    on_err c.from_residual-in_err-step.result
    (subst (λ m. IsHeld c.args.left (old, ds) (m, ds)) same
    (held_here c.args.left (new.steps - old.steps) (old, ds) (new, ds) most
    (moved_turns old new ds c.calls_agree.ensures c.requires.calm c.run-ran.ensures.steps few) grows))

pub returns-in-Ended-clause-turns : goal.returns-in-Ended-clause-turns
returns-in-Ended-clause-turns g c =
    let old = c.args.machine.now in
    let new = c.run-ran.new.self in
    let few : new.steps < 18446744073709551616 = search rules in
    let most : new.steps - old.steps ≤ c.args.left = search rules in
    let ended : can_step new ≡ false = search rules in
    let same : c.step.new.self ≡ new = search rules in
    let calm : new.waiting ≡ None = search rules in
    let all : c.args.left ≡ c.args.left - 0 = search rules in
    let f : _ → Meant = λ d. (goal.Device-dyn g (d.vtable, d.value)).meant d.value in
    let ds = map f c.args.rack.now.items in
    ap (λ m. (m, ds)) same
    ∙ none_left c.args.left old new ds c.calls_agree.ensures c.requires.calm c.run-ran.ensures.steps few most ended calm
    ∙ ap (λ n. turns flat_calls n (old, ds)) all

pub returns-in-Ok-clause-turns : goal.returns-in-Ok-clause-turns
returns-in-Ok-clause-turns g c =
    let old = c.args.machine.now in
    let new = c.run-ran.new.self in
    let asks = c.step.new.self in
    let done = c.answer.new.self in
    let q = c.in-Asks.query in
    let few : new.steps < 18446744073709551616 = search rules in
    let made = new.steps - old.steps in
    let step : asks ≡ done_by flat_calls Step new = search rules in
    let waits : asks.waiting ≡ Some q = search rules in
    let answered : done ≡ done_by flat_calls (Answers c.ask-answer.result) asks = search rules in
    let all : made + 1 ≡ c.args.left - (c.args.left - (c.steps.result - c.steps-made.result) - 1) = search rules in
    let f : _ → Meant = λ d. (goal.Device-dyn g (d.vtable, d.value)).meant d.value in
    let ds = map f c.args.rack.now.items in
    let es = map f c.ask-answer.new.rack.items in
    let told : done ≡ done_by flat_calls (Answers (rack_answer ds q)) asks =
    answered ∙ ap (λ x. done_by flat_calls (Answers x) asks) c.ask-answer.ensures.answer in
    let turned : turn flat_calls (new, ds) ≡ (done, rack_told ds q) =
    asking_turn new asks done ds q step waits told in
    ap (λ (x : _). (done, x)) c.ask-answer.ensures.told
    ∙ one_more made (old, ds) (new, ds) (done, rack_told ds q)
    (moved_turns old new ds c.calls_agree.ensures c.requires.calm c.run-ran.ensures.steps few) turned
    ∙ ap (λ n. turns flat_calls n (old, ds)) all

pub returns-in-Err-clause-held : goal.returns-in-Err-clause-held
returns-in-Err-clause-held g c =
    let old = c.args.machine.now in
    let new = c.run-ran.new.self in
    let asks = c.step.new.self in
    let last = c.answer.new.self in
    let q = c.in-Asks.query in
    let few : new.steps < 18446744073709551616 = search rules in
    let most : new.steps - old.steps < c.args.left = search rules in
    let step : asks ≡ done_by flat_calls Step new = search rules in
    let waits : asks.waiting ≡ Some q = search rules in
    let same : last ≡ asks = search rules in
    let calm : new.waiting ≡ None = search rules in
    let made : Steps (Asks q) new asks = search rules in
    let f : _ → Meant = λ d. (goal.Device-dyn g (d.vtable, d.value)).meant d.value in
    let ds = map f c.args.rack.now.items in
    let es = map f c.ask-answer.new.rack.items in
    let opened : (done_by flat_calls Step new).waiting ≡ Some q =
    ap (λ (m : MachineState Coding). m.waiting) (sym step) ∙ waits in
    let there : (last, es) ≡ (done_by flat_calls Step new, rack_told ds q) =
    ap (λ m. (m, es)) (same ∙ step)
    ∙ ap (λ (x : List Meant). (done_by flat_calls Step new, x)) c.ask-answer.ensures.told in
    held_asked c.args.left (new.steps - old.steps) (old, ds) (new, ds) (last, es) most
    (moved_turns old new ds c.calls_agree.ensures c.requires.calm c.run-ran.ensures.steps few)
    (asks_grow new asks q calm made) (q, opened, there)
