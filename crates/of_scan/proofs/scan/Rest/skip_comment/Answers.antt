use Rattle.std.proofs.Common.{rules}
use Rattle.of_scan.proofs.scan.Rest.skip_comment.Goals as goal

pub returns-in-Some-clause-past : goal.returns-in-Some-clause-past
returns-in-Some-clause-past c = search rules
