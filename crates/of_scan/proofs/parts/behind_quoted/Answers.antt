use Rattle.std.proofs.Common.{◌∙◌, ap, rules, length}
use Rattle.of_scan.proofs.PartLemmas.{group_last, group_more}
use Rattle.of_scan.proofs.parts.behind_quoted.Goals as goal

pub loop-preserved : goal.loop-preserved
loop-preserved c = record {
  same = group_more c.loop.counter (length c.args.text.now) c.loop.rest.now c.in-Some.next.now c.loop-test.true
      (search rules)
      ∙ c.loop.invariant.same;
  shorter = search rules;
}

pub returns-in-None-clause-rest : goal.returns-in-None-clause-rest
returns-in-None-clause-rest c =
    ap (λ p. p.1) c.part_to.ensures.parts
    ∙ group_last c.loop.counter (length c.args.text.now) c.loop.rest.now c.loop-test.true (search rules)
    ∙ c.loop.invariant.same
