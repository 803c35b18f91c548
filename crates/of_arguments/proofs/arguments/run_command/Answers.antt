use Rattle.std.proofs.Common.{rules, ap₂, ◌∙◌}
use Rattle.std.proofs.lemmas.Result.{IfOk-weaker}
use Rattle.clap.specs.Words.{with_rule}
use Rattle.of_arguments.proofs.arguments.run_command.Goals as goal

pub returns : goal.returns
returns c =
    let showing = c.in_ok-showing_command.ensures.0 in
    let explain = c.flag.ensures in
    let pci = c.pci_flag.ensures in
    let trace = c.trace_argument.ensures in
    let strict = c.strict_flag.ensures in
    let with_explain = c.in_ok-arg.ensures.shape explain.1 ∙ ap₂ with_rule showing explain.0 in
    let with_pci = c.in_ok-arg-2.ensures.shape pci.1 ∙ ap₂ with_rule with_explain pci.0 in
    let with_trace = c.in_ok-arg-3.ensures.shape trace.1 ∙ ap₂ with_rule with_pci trace.0 in
    IfOk-weaker c.arg-4.result _ _ (λ r h. (h.shape strict.1 ∙ ap₂ with_rule with_trace strict.0, search rules))
    c.arg-4.ensures
