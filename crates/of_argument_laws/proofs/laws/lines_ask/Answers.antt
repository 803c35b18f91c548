use Rattle.of_argument_laws.proofs.Lines.{lines_ask}
use Rattle.of_argument_laws.proofs.laws.lines_ask.Goals as goal

pub returns : goal.returns
returns c = lines_ask
