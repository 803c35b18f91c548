use Rattle.std.proofs.Common.{rules, inr}
use Rattle.of_compile.specs.Coding.{Coding}
use Rattle.of_machine.specs.Refused.{IsUnserved}
use Rattle.of_machine.specs.Runs.{Feed, settled}
use Rattle.of_machine.specs.States.{answered}
use Rattle.of_state.specs.State.{flat_calls}
use Rattle.of_machine.proofs.RefusedLemmas.{so_err}
use Rattle.of_machine.proofs.script_run.ScriptRun.answer.Goals as goal

pub returns-clause-untold : goal.returns-clause-untold
returns-clause-untold c =
    let f : Feed Coding = c.args.self.now in
    let g : Feed Coding = record f { machine = answered flat_calls c.args.answer f.machine } in
    so_err c.serve.result (λ (left : IsUnserved (settled g) c.serve.new.self). inr left) (search rules)
