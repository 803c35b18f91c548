use Rattle.std.proofs.Common.{rules}
use Rattle.of_fcodes.proofs.words.Word.xt.Goals as goal

pub returns : goal.returns
returns c = search rules
