use Rattle.of_machine.proofs.RefusedLemmas.{both_err, client_left, line_left_over, on_err}
use Rattle.of_machine.proofs.script_run.ScriptRun.serve.Goals as goal

pub returns-in_err-hear-clause-unserved : goal.returns-in_err-hear-clause-unserved
returns-in_err-hear-clause-unserved c =
    on_err c.from_residual.result
    (client_left c.args.self.now c.hear.new.self c.in_err-hear.ensures.rest c.in_err-hear.ensures.due)

pub returns-clause-unserved : goal.returns-clause-unserved
returns-clause-unserved c =
    both_err c.feed.result
    (λ same line. line_left_over c.args.self.now c.hear.new.self c.feed.new.self c.in_ok-hear.ensures.heard
    c.in_ok-hear.ensures.later same line)
    c.feed.ensures.err c.feed.ensures.due
