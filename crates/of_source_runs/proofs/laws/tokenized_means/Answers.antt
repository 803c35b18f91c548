use Rattle.of_source_runs.proofs.Steps.{tokenized_means}
use Rattle.of_source_runs.proofs.laws.tokenized_means.Goals as goal

pub returns : goal.returns
returns c = tokenized_means c.sources_behave.ensures c.sources_print_alike.ensures
