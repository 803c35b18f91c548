use Rattle.std.proofs.Common.{rules, ap₂, codes, ◌≡◌, ◌∙◌}
use Rattle.std.proofs.lemmas.Result.{IfOk-weaker}
use Rattle.clap.specs.Words.{app_of, with_rule, new_app}
use Rattle.of_arguments.proofs.arguments.debug_command.Goals as goal

pub returns : goal.returns
returns c =
    let new_is : app_of c.after_help.result ≡ new_app (codes "debug") = search rules in
    let image = c.image_argument.ensures in
    let script = c.script_argument.ensures in
    let terminal = c.flag.ensures in
    let lines = c.lines_argument.ensures in
    let answers = c.answers_argument.ensures in
    let limit = c.limit_argument.ensures in
    let with_image = c.in_ok-arg.ensures.shape image.1 ∙ ap₂ with_rule new_is image.0 in
    let with_script = c.in_ok-arg-2.ensures.shape script.1 ∙ ap₂ with_rule with_image script.0 in
    let with_terminal = c.in_ok-arg-3.ensures.shape terminal.1 ∙ ap₂ with_rule with_script terminal.0 in
    let with_lines = c.in_ok-arg-4.ensures.shape lines.1 ∙ ap₂ with_rule with_terminal lines.0 in
    let with_answers = c.in_ok-arg-5.ensures.shape answers.1 ∙ ap₂ with_rule with_lines answers.0 in
    IfOk-weaker c.arg-6.result _ _ (λ r h. (h.shape limit.1 ∙ ap₂ with_rule with_answers limit.0, search rules))
    c.arg-6.ensures
