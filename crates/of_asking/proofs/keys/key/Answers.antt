-- The goal at which a wrong body is refused.
use Rattle.std.proofs.Common.{rules}
use Rattle.of_asking.proofs.keys.key.Goals as goal

pub returns-in_err-ask-clause-value : goal.returns-in_err-ask-clause-value
returns-in_err-ask-clause-value c = search rules
