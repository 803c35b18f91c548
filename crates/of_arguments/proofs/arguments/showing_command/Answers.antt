use Rattle.std.proofs.Common.{rules, ap₂, ◌∙◌}
use Rattle.std.proofs.lemmas.Result.{IfOk-weaker}
use Rattle.clap.specs.Words.{with_rule}
use Rattle.of_arguments.proofs.arguments.showing_command.Goals as goal

pub returns : goal.returns
returns c =
    let running = c.in_ok-running_command.ensures.0 in
    let tree = c.flag.ensures in
    let words = c.flag-2.ensures in
    let see = c.see_argument.ensures in
    let state = c.flag-3.ensures in
    let with_tree = c.in_ok-arg.ensures.shape tree.1 ∙ ap₂ with_rule running tree.0 in
    let with_words = c.in_ok-arg-2.ensures.shape words.1 ∙ ap₂ with_rule with_tree words.0 in
    let with_see = c.in_ok-arg-3.ensures.shape see.1 ∙ ap₂ with_rule with_words see.0 in
    IfOk-weaker c.arg-4.result _ _ (λ r h. (h.shape state.1 ∙ ap₂ with_rule with_see state.0, search rules))
    c.arg-4.ensures
