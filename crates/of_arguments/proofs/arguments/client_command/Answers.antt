use Rattle.std.proofs.Common.{rules, ap₂, codes, ◌≡◌, ◌∙◌}
use Rattle.std.proofs.lemmas.Result.{IfOk-weaker}
use Rattle.clap.specs.Words.{app_of, with_rule, new_app}
use Rattle.of_arguments.proofs.arguments.client_command.Goals as goal

pub returns : goal.returns
returns c =
    let new_is : app_of c.after_help.result ≡ new_app (codes "client") = search rules in
    let image = c.image_argument.ensures in
    let calls = c.calls_argument.ensures in
    let lines = c.lines_argument.ensures in
    let answers = c.answers_argument.ensures in
    let board = c.board_argument.ensures in
    let limit = c.limit_argument.ensures in
    let explain = c.flag.ensures in
    let strict = c.strict_flag.ensures in
    let with_image = c.in_ok-arg.ensures.shape image.1 ∙ ap₂ with_rule new_is image.0 in
    let with_calls = c.in_ok-arg-2.ensures.shape calls.1 ∙ ap₂ with_rule with_image calls.0 in
    let with_lines = c.in_ok-arg-3.ensures.shape lines.1 ∙ ap₂ with_rule with_calls lines.0 in
    let with_answers = c.in_ok-arg-4.ensures.shape answers.1 ∙ ap₂ with_rule with_lines answers.0 in
    let with_board = c.in_ok-arg-5.ensures.shape board.1 ∙ ap₂ with_rule with_answers board.0 in
    let with_limit = c.in_ok-arg-6.ensures.shape limit.1 ∙ ap₂ with_rule with_board limit.0 in
    let with_explain = c.in_ok-arg-7.ensures.shape explain.1 ∙ ap₂ with_rule with_limit explain.0 in
    IfOk-weaker c.arg-8.result _ _ (λ r h. (h.shape strict.1 ∙ ap₂ with_rule with_explain strict.0, search rules))
    c.arg-8.ensures
