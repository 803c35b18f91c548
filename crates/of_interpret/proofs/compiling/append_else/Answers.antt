use Rattle.std.proofs.Common.{[], ◌∷◌, List, None, false, rules}
use Rattle.of_control.specs.Element.{Element, Branch, Resolve, Roll}
use Rattle.of_compile.specs.declared.element.PlainItem.{PlainItem}
use Rattle.of_interpret.proofs.Appended.{all_put, first_refused, resolved, roll_and_resolve, rolled}
use Rattle.of_interpret.proofs.compiling.append_else.Goals as goal

pub returns-in_err-compile : goal.returns-in_err-compile
returns-in_err-compile g c =
    let s = c.args.eval.now in
    let es : List (Element PlainItem) = Roll 1 ∷ Resolve None ∷ [] in
    search (rules, first_refused (Branch false None) es s c.compile.new.eval)

pub returns : goal.returns
returns g c =
    let s = c.args.eval.now in
    let one = c.compile.new.eval in
    let es = Roll 1 ∷ Resolve None ∷ [] in
    let second = rolled 1 c.eval.inside.coding.coding c.compile-2.new.self.coding c.compile-2.result
    c.compile-2.ensures.outcome in
    let third = resolved c.compile-2.new.self.coding c.compile-3.new.self.coding c.compile-3.result
    c.compile-3.ensures.outcome in
    let behind = roll_and_resolve c.eval.inside.coding.coding c.compile-2.new.self.coding c.compile-3.new.self.coding
    second third in
    all_put (Branch false None) es s one _ c.compile-3.new.self.coding c.in_ok-compile.ensures.outcome
    (search (rules, behind)) (search rules)
