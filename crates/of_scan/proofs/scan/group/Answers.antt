use Rattle.std.proofs.Common.{rules}
use Rattle.std.proofs.lemmas.List.{take_rest}
use Rattle.of_scan.proofs.Scanning.{group_pairs}
use Rattle.of_scan.proofs.scan.group.Goals as goal

pub returns-in-Some-clause-found : goal.returns-in-Some-clause-found
returns-in-Some-clause-found c = group_pairs c.args.text.now 0 _ c.in-40.len_at_least (search rules)
    (rw (c.in-Some.is, take_rest c.args.text.now 1, c.new-out.ensures.items) at c.in_ok-rest-in-40.ensures.found)

pub returns-in-Some-clause-shorter : goal.returns-in-Some-clause-shorter
returns-in-Some-clause-shorter c = search rules

pub returns-in-40-clause-found : goal.returns-in-40-clause-found
returns-in-40-clause-found c = group_pairs c.args.text.now 0 _ c.in-40.len_at_least (search rules)
    (rw (c.in-None.is, take_rest c.args.text.now 1, c.new-out.ensures.items) at c.in_ok-rest-in-40.ensures.found)
