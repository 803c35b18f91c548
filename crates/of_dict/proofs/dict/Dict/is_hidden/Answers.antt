-- The goals at which wrong bodies are refused.
use Rattle.std.proofs.Common.{rules}
use Rattle.of_dict.proofs.dict.Dict.is_hidden.Goals as goal

pub returns-in-Some : goal.returns-in-Some
returns-in-Some c = search rules
