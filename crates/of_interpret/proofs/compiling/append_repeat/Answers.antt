use Rattle.std.proofs.Common.{[], ◌∷◌, None, false, rules}
use Rattle.of_control.specs.Element.{Back, Resolve}
use Rattle.of_interpret.proofs.Appended.{all_put, first_refused, resolve_alone, resolved}
use Rattle.of_interpret.proofs.compiling.append_repeat.Goals as goal

pub returns-in_err-compile : goal.returns-in_err-compile
returns-in_err-compile g c =
    let s = c.args.eval.now in
    search (rules, first_refused (Back false None) (Resolve None ∷ []) s c.compile.new.eval)

pub returns : goal.returns
returns g c =
    let s = c.args.eval.now in
    let one = c.compile.new.eval in
    let second = resolved c.eval.inside.coding.coding c.compile-2.new.self.coding c.compile-2.result
    c.compile-2.ensures.outcome in
    let behind = resolve_alone c.eval.inside.coding.coding c.compile-2.new.self.coding second in
    all_put (Back false None) (Resolve None ∷ []) s one _ c.compile-2.new.self.coding c.in_ok-compile.ensures.outcome
    (search (rules, behind)) (search rules)
