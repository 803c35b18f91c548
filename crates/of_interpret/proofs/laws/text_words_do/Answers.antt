use Rattle.of_interpret.proofs.TextLaws.{text_words_do}
use Rattle.of_interpret.proofs.laws.text_words_do.Goals as goal

pub returns-clause-cells : goal.returns-clause-cells
returns-clause-cells c = text_words_do

pub returns-clause-bodies : goal.returns-clause-bodies
returns-clause-bodies c = text_words_do
