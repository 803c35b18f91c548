use Rattle.std.proofs.Common.{rules}
use Rattle.std.proofs.lemmas.List.{append_assoc}
use Rattle.of_console.proofs.values.push_value.Goals as goal

pub returns : goal.returns
returns c = search (rules, append_assoc)
