use Rattle.std.proofs.Common.{rules, ap₂, codes, ◌≡◌, ◌∙◌}
use Rattle.std.proofs.lemmas.Result.{IfOk-weaker}
use Rattle.clap.specs.Words.{app_of, with_rule, new_app}
use Rattle.of_arguments.proofs.arguments.pci_command.Goals as goal

pub returns : goal.returns
returns c =
    let new_is : app_of c.after_help.result ≡ new_app (codes "pci") = search rules in
    let rom = c.rom_argument.ensures in
    IfOk-weaker c.arg.result _ _ (λ r h. (h.shape rom.1 ∙ ap₂ with_rule new_is rom.0, search rules))
    c.arg.ensures
