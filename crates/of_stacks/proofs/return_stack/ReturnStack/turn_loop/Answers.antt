use Rattle.std.proofs.Common.{◌≡◌, ◌<◌, ◌∷◌, length, drop, reverse, if◌then◌else◌, ap, sym, ◌∙◌, arith}
use Rattle.std.proofs.lemmas.Bool.Decides.{nat_tests}
use Rattle.of_stacks.specs.Loops.{turned}
use Rattle.of_stacks.proofs.Reversed.{reverse_lent, reverse_written}
use Rattle.of_stacks.proofs.return_stack.ReturnStack.turn_loop.Goals as goal

pub returns-in-Ok-true-clause-items : goal.returns-in-Ok-true-clause-items
returns-in-Ok-true-clause-items c =
    let xs = c.self.inside.items.items in
    let count : c.len-depth.result ≡ length xs = c.len-depth.ensures ∙ c.self.inside.items.ok.0 in
    let there : 0 < length xs = grind (arith, nat_tests, c.if-depth-eq0.false, count) in
    let top = reverse_lent xs c.len-depth.result c.index_mut.result.now c.index_mut.ensures.value
    count there in
    reverse_written xs c.len-depth.result c.turn.new.top count there
    ∙ ap (λ b. if b then c.turn.new.top ∷ drop 1 (reverse xs) else drop 1 (reverse xs))
    (sym c.in-Ok-true.field-0-test)
    ∙ sym (c.in-Ok-true.ensures.ok (drop 1 (reverse xs)))
    ∙ ap (turned c.args.step) (sym top ∙ c.self.view_is)

pub returns-in-Ok-false-clause-items : goal.returns-in-Ok-false-clause-items
returns-in-Ok-false-clause-items c =
    let xs = c.self.inside.items.items in
    let count : c.len-depth.result ≡ length xs = c.len-depth.ensures ∙ c.self.inside.items.ok.0 in
    let there : 0 < length xs = grind (arith, nat_tests, c.if-depth-eq0.false, count) in
    let top = reverse_lent xs c.len-depth.result c.index_mut.result.now c.index_mut.ensures.value
    count there in
    c.pop.ensures.rest
    ∙ ap (drop 1) (reverse_written xs c.len-depth.result c.turn.new.top count there)
    ∙ ap (λ b. if b then c.turn.new.top ∷ drop 1 (reverse xs) else drop 1 (reverse xs))
    (sym c.in-Ok-false.field-0-test)
    ∙ sym (c.in-Ok-false.ensures.ok (drop 1 (reverse xs)))
    ∙ ap (turned c.args.step) (sym top ∙ c.self.view_is)

pub returns-in-Err-clause-items : goal.returns-in-Err-clause-items
returns-in-Err-clause-items c =
    let xs = c.self.inside.items.items in
    let count : c.len-depth.result ≡ length xs = c.len-depth.ensures ∙ c.self.inside.items.ok.0 in
    let there : 0 < length xs = grind (arith, nat_tests, c.if-depth-eq0.false, count) in
    let top = reverse_lent xs c.len-depth.result c.index_mut.result.now c.index_mut.ensures.value
    count there in
    reverse_written xs c.len-depth.result c.turn.new.top count there
    ∙ sym (c.in-Err.ensures.err (drop 1 (reverse xs)))
    ∙ ap (turned c.args.step) (sym top ∙ c.self.view_is)
