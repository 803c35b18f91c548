use Rattle.std.proofs.Common.{sym, ◌∙◌}
use Rattle.of_compile.proofs.Scanning.{empty_stays, other_stays}
use Rattle.of_compile.proofs.waiting.aim.Goals as goal

pub returns-else-waits-clause-code : goal.returns-else-waits-clause-code
returns-else-waits-clause-code g c =
    other_stays c.args.waiting c.args.at c.args.to (g.C.CodeStore.code c.args.code.now) c.in-Some.item
    (sym c.in-Some.ensures.item) (sym c.waits.ensures ∙ c.if-waits.false)

pub returns-in_default-clause-code : goal.returns-in_default-clause-code
returns-in_default-clause-code g c =
    empty_stays c.args.waiting c.args.at c.args.to (g.C.CodeStore.code c.args.code.now) (sym c.in_default.ensures.item)
