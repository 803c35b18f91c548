-- The goals at which wrong bodies are refused.
use Rattle.std.proofs.Common.{rules}
use Rattle.of_stacks.specs.Throws.{throw_text}
use Rattle.of_stacks.proofs.texts.text_of.Goals as goal

pub returns-in-minus5-clause-text : goal.returns-in-minus5-clause-text
unfolding throw_text
returns-in-minus5-clause-text c = search rules
