use Rattle.std.proofs.Common.{rules, ◌≡◌, ◌+◌, ◌-◌, arith}
use Rattle.of_steps.specs.Goals.{IsUnreached, before}
use Rattle.of_machine.proofs.GoalLemmas.{but_the_last}
use Rattle.of_machine.proofs.machine.Machine.run_to.Goals as goal

pub returns-clause-before : goal.returns-clause-before
returns-clause-before g c =
    let marks = c.args.marks.now in
    let old = c.args.self.now in
    let made = c.run_to-made.result.0 in
    let a = c.run_to-made.result.1 in
    let same : c.self.inside.steps + made - old.steps ≡ made = grind arith in
    let unreached : IsUnreached marks c.args.goal (before a made) old.eval = search rules in
    but_the_last marks c.args.goal a made (c.self.inside.steps + made - old.steps) old.eval same unreached
