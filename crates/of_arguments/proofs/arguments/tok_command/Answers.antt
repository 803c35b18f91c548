use Rattle.std.proofs.Common.{rules, ap₂, codes, ◌≡◌, ◌∙◌}
use Rattle.std.proofs.lemmas.Result.{IfOk-weaker}
use Rattle.clap.specs.Words.{app_of, with_rule, new_app}
use Rattle.of_arguments.proofs.arguments.tok_command.Goals as goal

pub returns : goal.returns
returns c =
    let new_is : app_of c.after_help.result ≡ new_app (codes "tok") = search rules in
    let source = c.source_argument.ensures in
    let output = c.output_argument.ensures in
    let with_source = c.in_ok-arg.ensures.shape source.1 ∙ ap₂ with_rule new_is source.0 in
    let symbols = c.flag.ensures in
    let with_output = c.in_ok-arg-2.ensures.shape output.1 ∙ ap₂ with_rule with_source output.0 in
    let listing = c.flag-2.ensures in
    let with_symbols = c.in_ok-arg-3.ensures.shape symbols.1 ∙ ap₂ with_rule with_output symbols.0 in
    IfOk-weaker c.arg-4.result _ _ (λ r h. (h.shape listing.1 ∙ ap₂ with_rule with_symbols listing.0, search rules))
    c.arg-4.ensures
