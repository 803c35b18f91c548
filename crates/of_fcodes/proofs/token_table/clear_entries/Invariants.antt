use Rattle.std.proofs.Common.{◌≡◌}
use Rattle.of_fcodes.specs.Tokens.{unless_named}
use Rattle.of_fcodes.proofs.TokenLemmas.{mapped_to}
use Rattle.of_fcodes.proofs.token_table.clear_entries.Given as goal

abbrev pub invariant-loop-entry : goal.invariant-loop-entry
invariant-loop-entry l = l.entries ≡ mapped_to (unless_named l.xt) l.entry-index l.initial.entries
