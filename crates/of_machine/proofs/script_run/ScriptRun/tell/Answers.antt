use Rattle.std.proofs.Common.{rules, ◌≡◌, ◌∷◌, None, refl}
use Rattle.of_asking.specs.declared.query.Answer.{Answer}
use Rattle.of_compile.specs.Coding.{Coding}
use Rattle.of_state.specs.State.{flat_calls}
use Rattle.of_machine.specs.States.{answer_refusal, answered}
use Rattle.of_machine.specs.Runs.{Feed, settled}
use Rattle.of_machine.specs.Refused.{IsUnserved}
use Rattle.of_machine.proofs.RefusedLemmas.{on_err, untold_so}
use Rattle.of_machine.proofs.RunLemmas.{is_told}
use Rattle.of_machine.proofs.script_run.ScriptRun.tell.Goals as goal

pub returns-in_ok-serve-in-Ok-clause-told : goal.returns-in_ok-serve-in-Ok-clause-told
returns-in_ok-serve-in-Ok-clause-told c = λ fits.
    let f = c.args.self.now in
    let answer : Answer = c.in-Some.answer.now in
    let rest = c.in-Some.rest.now in
    let m = c.answer.new.self in
    let split : f.answers ≡ answer ∷ rest = search rules in
    let accepted : answer_refusal f.machine.waiting answer ≡ None = search rules in
    let moved : m ≡ answered flat_calls answer f.machine = search rules in
    let g : Feed Coding = record f { machine = m; answers = rest } in
    let served : c.serve.new.self ≡ settled g = search rules in
    is_told f g c.serve.new.self m answer rest split accepted moved refl served c.in_ok-serve-in-Ok.ensures.later

pub returns-in_err-serve-in-Ok-clause-untold : goal.returns-in_err-serve-in-Ok-clause-untold
returns-in_err-serve-in-Ok-clause-untold c =
    let f = c.args.self.now in
    let answer : Answer = c.in-Some.answer.now in
    let rest = c.in-Some.rest.now in
    let m = c.answer.new.self in
    let split : f.answers ≡ answer ∷ rest = search rules in
    let accepted : answer_refusal f.machine.waiting answer ≡ None = search rules in
    let moved : m ≡ answered flat_calls answer f.machine = search rules in
    let g : Feed Coding = record f { machine = m; answers = rest } in
    let left : IsUnserved (settled g) c.serve.new.self = search rules in
    on_err c.from_residual.result
    (untold_so f g c.serve.new.self m answer rest split accepted moved refl left)
