use Rattle.std.proofs.Common.{rules, nat_eq, not}
use Rattle.std.proofs.lemmas.Fn.{filter_same}
use Rattle.of_see.proofs.cases.leave_others.Goals as goal

pub returns : goal.returns
returns c =
    filter_same _ (λ t. not (nat_eq t c.args.number)) _ (λ x b f k. search rules) _ _ c.retain.ensures.filtered
