use Rattle.std.proofs.Common.{◌∙◌, ap}
use Rattle.of_scan.specs.Parts.{part_to}
use Rattle.of_scan.proofs.GroupLemmas.{group_fits, group_over}
use Rattle.of_scan.proofs.parts.append_group.Goals as goal

pub returns-clause-bytes : goal.returns-clause-bytes
returns-clause-bytes c =
    group_fits c.append_pairs.result _ c.part_to.result.0.now c.args.text.now
    (ap (λ p. p.0) c.part_to.ensures.parts ∙ ap (λ t. (part_to 41 t).0) c.behind_byte.ensures.rest)
    c.append_pairs.ensures.bytes

pub returns-clause-long : goal.returns-clause-long
returns-clause-long c =
    group_over c.append_pairs.result _ c.part_to.result.0.now c.args.text.now
    (ap (λ p. p.0) c.part_to.ensures.parts ∙ ap (λ t. (part_to 41 t).0) c.behind_byte.ensures.rest)
    c.append_pairs.ensures.long
