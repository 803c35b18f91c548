use Rattle.std.proofs.Common.{rules, ap₂, codes, ◌≡◌, ◌∙◌}
use Rattle.std.proofs.lemmas.Result.{IfOk-weaker}
use Rattle.clap.specs.Words.{app_of, with_rule, new_app}
use Rattle.of_arguments.proofs.arguments.check_command.Goals as goal

pub returns : goal.returns
returns c =
    let new_is : app_of c.after_help.result ≡ new_app (codes "check") = search rules in
    let image = c.image_argument.ensures in
    let pci = c.pci_flag.ensures in
    let with_image = c.in_ok-arg.ensures.shape image.1 ∙ ap₂ with_rule new_is image.0 in
    IfOk-weaker c.arg-2.result _ _ (λ r h. (h.shape pci.1 ∙ ap₂ with_rule with_image pci.0, search rules))
    c.arg-2.ensures
