use Rattle.std.proofs.Common.{rules}
use Rattle.of_flow.proofs.returns.exit.Goals as goal

pub returns-in_err-flow : goal.returns-in_err-flow
returns-in_err-flow c = search rules

pub returns : goal.returns
returns c = search rules
