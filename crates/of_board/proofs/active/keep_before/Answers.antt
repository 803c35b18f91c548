use Rattle.std.proofs.Common.{rules, nat_lt}
use Rattle.std.proofs.lemmas.Fn.{filter_same}
use Rattle.of_board.proofs.active.keep_before.Goals as goal

pub returns : goal.returns
returns c =
    filter_same _ (λ d. nat_lt d.number c.args.count) _ (λ x b f k. search rules) _ _ c.retain.ensures.filtered
