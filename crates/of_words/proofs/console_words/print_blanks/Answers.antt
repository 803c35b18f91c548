-- The goals at which wrong bodies are refused.
use Rattle.std.proofs.Common.{rules}
use Rattle.of_words.proofs.Blanks.{at_right_blanks}
use Rattle.of_words.proofs.console_words.print_blanks.Goals as goal

pub returns-clause-value : goal.returns-clause-value
returns-clause-value c = search (rules, at_right_blanks)
