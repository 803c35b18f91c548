-- The goals at which wrong bodies are refused.
use Rattle.std.proofs.Common.{rules}
use Rattle.of_nodes.proofs.components.cells_by.Goals as goal

pub returns-then-count-le-MOST_CELLS-clause-value : goal.returns-then-count-le-MOST_CELLS-clause-value
returns-then-count-le-MOST_CELLS-clause-value c = search rules

pub returns-then-count-le-MOST_CELLS-clause-few : goal.returns-then-count-le-MOST_CELLS-clause-few
returns-then-count-le-MOST_CELLS-clause-few c = search rules
