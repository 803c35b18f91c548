use Rattle.of_compile.proofs.NameLemmas.{get_their_names}
use Rattle.of_compile.proofs.laws.words_get_their_names.Goals as goal

pub returns : goal.returns
returns c = get_their_names c.changes_are_found.ensures
