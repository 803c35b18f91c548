-- The goal at which a wrong body is refused.
use Rattle.std.proofs.Common.{rules}
use Rattle.of_dict.proofs.dict.Dict.kind_of.Goals as goal

pub returns : goal.returns
returns c = search rules
