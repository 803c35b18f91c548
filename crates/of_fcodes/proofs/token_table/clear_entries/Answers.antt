use Rattle.std.proofs.Common.{◌≡◌, length, arith, None, ◌∙◌}
use Rattle.of_fcodes.specs.Tokens.{unless_named}
use Rattle.of_fcodes.proofs.TokenLemmas.{mapped_more, mapped_all}
use Rattle.of_fcodes.proofs.token_table.clear_entries.Goals as goal

pub loop-entry-preserved : goal.loop-entry-preserved
loop-entry-preserved c =
    mapped_more (unless_named c.args.xt) c.loop-entry.entry-index c.args.entries.now c.loop-entry.entries None
    c.unless_named.result (omega (arith, c.loop-entry-test.true)) c.loop-entry.invariant c.unless_named.ensures

pub returns : goal.returns
returns c =
    let end : c.loop-entry.entry-index ≡ length c.args.entries.now = omega (arith, c.loop-entry-test.false) in
    c.loop-entry.invariant ∙ mapped_all (unless_named c.args.xt) c.loop-entry.entry-index c.args.entries.now end
