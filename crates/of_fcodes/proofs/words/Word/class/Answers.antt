use Rattle.std.proofs.Common.{rules}
use Rattle.of_fcodes.proofs.words.Word.class.Goals as goal

pub returns-in-Keys : goal.returns-in-Keys
returns-in-Keys c = search rules
