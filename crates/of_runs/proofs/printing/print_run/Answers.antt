use Rattle.std.proofs.Common.{rules, ◌≡◌, subst, sym}
use Rattle.of_runs.specs.Runs.{GivesUp, NeverBegins, RunsBy, RunsOn, lines_of}
use Rattle.of_runs.specs.declared.outside.Answerer.TheVariants as answering
use Rattle.of_runs.proofs.Kept.{given_as, if_err}
use Rattle.of_runs.proofs.printing.print_run.Goals as goal

pub returns-in-Board-clause-given_up : goal.returns-in-Board-clause-given_up
returns-in-Board-clause-given_up g c =
    let image = c.args.image.now in
    let o = c.args.outside in
    let lines = lines_of o in
    let limit = c.args.limit in
    let old = g.W.Write.contents c.args.out.now in
    let new = g.W.Write.contents c.print_on_board.new.out in
    let is : o.answerer ≡ answering.Board c.in-Board.board = search rules in
    if_err c.print_on_board.result _ (λ x. GivesUp image o limit old new x)
    (λ x h. given_as _ (RunsOn image o) (NeverBegins image lines old new x) limit old new x
    (λ n m e runs. subst (λ a. RunsBy image lines a n m e) (sym is) runs) h)
    c.print_on_board.ensures.given_up

pub returns-in-Answers-clause-given_up : goal.returns-in-Answers-clause-given_up
returns-in-Answers-clause-given_up g c =
    let image = c.args.image.now in
    let o = c.args.outside in
    let lines = lines_of o in
    let limit = c.args.limit in
    let old = g.W.Write.contents c.args.out.now in
    let new = g.W.Write.contents c.print_answered.new.out in
    let is : o.answerer ≡ answering.Answers c.in-Answers.answers = search rules in
    if_err c.print_answered.result _ (λ x. GivesUp image o limit old new x)
    (λ x h. given_as _ (RunsOn image o) (NeverBegins image lines old new x) limit old new x
    (λ n m e runs. subst (λ a. RunsBy image lines a n m e) (sym is) runs) h)
    c.print_answered.ensures.given_up
