use Rattle.std.proofs.Common.{◌≡◌, true, sym, ap, ◌∙◌, ◌+◌, add-one, rules, is_some, take}
use Rattle.std.proofs.lemmas.List.{take_rest}
use Rattle.of_scan.specs.Parts.{has_byte, paired}
use Rattle.of_scan.proofs.PartLemmas.{pairs_bad, pairs_closed}
use Rattle.of_scan.proofs.parts.behind_pairs.Goals as goal

pub returns-then-not-are_pairs-clause-rest : goal.returns-then-not-are_pairs-clause-rest
returns-then-not-are_pairs-clause-rest c =
    pairs_bad c.args.text.now
    (ap (λ n. is_some (paired (take n c.args.text.now))) (sym c.count_before-count.ensures.value)
    ∙ sym c.are_pairs.ensures ∙ c.if-not-are_pairs.true)

pub returns-clause-rest : goal.returns-clause-rest
returns-clause-rest c =
    let has : has_byte 41 c.args.text.now ≡ true = search rules in
    rw (take_rest c.args.text.now (c.count_before-count.result + 1), add-one, c.count_before-count.ensures.value)
    (pairs_closed c.args.text.now has
    (ap (λ n. is_some (paired (take n c.args.text.now))) (sym c.count_before-count.ensures.value)
    ∙ sym c.are_pairs.ensures ∙ c.if-not-are_pairs.false))
