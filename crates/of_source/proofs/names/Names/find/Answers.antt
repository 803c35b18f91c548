use Rattle.std.proofs.Common.{◌∙◌}
use Rattle.of_source.proofs.Naming.{found}
use Rattle.of_source.proofs.names.Names.find.Goals as goal

pub returns : goal.returns
returns c =
    let indexed = rw c.self.view_is at c.self.invariant in
    c.copied.ensures ∙ c.get.ensures.value
    ∙ found c.args.self.now _ c.in_ok-key.key c.args.name.now indexed c.in_ok-key.ensures.ok
