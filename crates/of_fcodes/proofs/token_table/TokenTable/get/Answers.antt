-- The goals at which wrong bodies are refused.
use Rattle.std.proofs.Common.{None}
use Rattle.std.proofs.lemmas.Option.{unwrap_or-slice_get}
use Rattle.of_fcodes.proofs.token_table.TokenTable.get.Goals as goal

pub returns : goal.returns
returns c =
    let read = unwrap_or-slice_get c.args.self.now c.args.code.0 None in
    let found = c.in_ok-get.ensures.lookup.3.1 None in
    cc
