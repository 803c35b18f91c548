-- The goals at which wrong bodies are refused.
use Rattle.std.proofs.Common.{rules}
use Rattle.of_format.proofs.digits.digit.Goals as goal

pub returns-then-value-base-clause-value : goal.returns-then-value-base-clause-value
returns-then-value-base-clause-value c = search rules

pub returns-then-value-base-clause-below : goal.returns-then-value-base-clause-below
returns-then-value-base-clause-below c = search rules
