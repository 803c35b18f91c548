use Rattle.std.proofs.Common.{◌≡◌, ap, sym, arith, ◌∙◌}
use Rattle.of_fcodes.specs.Tokens.{first_entries}
use Rattle.of_fcodes.proofs.TokenLemmas.{all_entries}
use Rattle.of_fcodes.proofs.token_table.first_entries.Goals as goal

pub returns-clause-entries : goal.returns-clause-entries
returns-clause-entries c =
    let end : c.loop-number.number ≡ 4096 = omega (arith, c.loop-number-test.false, c.loop-number.auto.number-end) in
    c.loop-number.invariant.entries ∙ ap (first_entries 0) end ∙ sym all_entries
