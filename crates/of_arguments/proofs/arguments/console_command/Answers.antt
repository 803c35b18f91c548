use Rattle.std.proofs.Common.{rules, ap₂, codes, ◌≡◌, ◌∙◌}
use Rattle.std.proofs.lemmas.Result.{IfOk-weaker}
use Rattle.clap.specs.Words.{app_of, with_rule, new_app}
use Rattle.of_arguments.proofs.arguments.console_command.Goals as goal

pub returns : goal.returns
returns c =
    let new_is : app_of c.after_help.result ≡ new_app (codes "console") = search rules in
    let image = c.first_image_argument.ensures in
    let board = c.board_argument.ensures in
    let limit = c.limit_argument.ensures in
    let with_image = c.in_ok-arg.ensures.shape image.1 ∙ ap₂ with_rule new_is image.0 in
    let with_board = c.in_ok-arg-2.ensures.shape board.1 ∙ ap₂ with_rule with_image board.0 in
    IfOk-weaker c.arg-3.result _ _ (λ r h. (h.shape limit.1 ∙ ap₂ with_rule with_board limit.0, search rules))
    c.arg-3.ensures
