-- The goals at which wrong bodies are refused.
use Rattle.std.proofs.Common.{rules}
use Rattle.of_dict.proofs.dict.Dict.newest.Goals as goal

pub returns-clause-newest : goal.returns-clause-newest
returns-clause-newest c = search rules
