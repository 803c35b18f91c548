use Rattle.std.proofs.Common.{◌≡◌}
use Rattle.std.specs.Prelude.{vec_len}
use Rattle.of_fcodes.specs.Tokens.{first_entries}
use Rattle.of_fcodes.proofs.token_table.first_entries.Given as goal

abbrev pub invariant-loop-number : goal.invariant-loop-number
invariant-loop-number l = record {
  entries : l.entries.items ≡ first_entries 0 l.number;
  len : vec_len l.entries ≡ l.number;
}
