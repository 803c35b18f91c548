-- The goals at which wrong bodies are refused.
use Rattle.std.proofs.Common.{rules}
use Rattle.of_flow.specs.Tokens.{typed_word}
use Rattle.of_flow.proofs.token.typed_word.Goals as goal

pub returns-in-Case-clause-token : goal.returns-in-Case-clause-token
unfolding typed_word
returns-in-Case-clause-token c = search rules
