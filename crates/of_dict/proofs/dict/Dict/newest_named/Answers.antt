use Rattle.std.proofs.Common.{length, arith, sym, rules}
use Rattle.of_dict.specs.Headers.{links_of}
use Rattle.of_dict.proofs.Searches.{no_long_name}
use Rattle.of_dict.proofs.dict.Dict.newest_named.Goals as goal

pub returns-then-name-gt-LONGEST_NAME : goal.returns-then-name-gt-LONGEST_NAME
returns-then-name-gt-LONGEST_NAME c =
    let indexed = rw c.self.view_is at c.self.invariant in
    sym (no_long_name c.args.self.now (links_of c.self.inside.headers.items) _ c.args.name.now
    (length c.args.self.now) indexed (omega arith))

-- The goals at which wrong bodies are refused.
pub key_of-requires : goal.key_of-requires
key_of-requires c = search rules
