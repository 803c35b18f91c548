use Rattle.std.proofs.Common.{rules}
use Rattle.of_scan.proofs.PartLemmas.{drop_one}
use Rattle.of_scan.proofs.parts.part_to.Goals as goal

pub returns-clause-parts : goal.returns-clause-parts
returns-clause-parts c = search (drop_one, rules)
