use Rattle.std.proofs.Common.{rules, ap₂, codes, ◌≡◌, ◌∙◌}
use Rattle.std.proofs.lemmas.Result.{IfOk-weaker}
use Rattle.clap.specs.Words.{app_of, with_rule, new_app}
use Rattle.of_arguments.proofs.arguments.detok_command.Goals as goal

pub returns : goal.returns
returns c =
    let new_is : app_of c.after_help.result ≡ new_app (codes "detok") = search rules in
    let image = c.image_argument.ensures in
    let names = c.flag.ensures in
    let indent = c.flag-2.ensures in
    let see = c.flag-3.ensures in
    let partial = c.flag-4.ensures in
    let with_image = c.in_ok-arg.ensures.shape image.1 ∙ ap₂ with_rule new_is image.0 in
    let with_names = c.in_ok-arg-2.ensures.shape names.1 ∙ ap₂ with_rule with_image names.0 in
    let with_indent = c.in_ok-arg-3.ensures.shape indent.1 ∙ ap₂ with_rule with_names indent.0 in
    let with_see = c.in_ok-arg-4.ensures.shape see.1 ∙ ap₂ with_rule with_indent see.0 in
    let pci = c.pci_flag.ensures in
    let with_partial = c.in_ok-arg-5.ensures.shape partial.1 ∙ ap₂ with_rule with_see partial.0 in
    IfOk-weaker c.arg-6.result _ _ (λ r h. (h.shape pci.1 ∙ ap₂ with_rule with_partial pci.0, search rules))
    c.arg-6.ensures
