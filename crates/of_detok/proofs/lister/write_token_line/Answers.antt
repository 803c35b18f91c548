use Rattle.std.proofs.Common.{append_assoc, rules}
use Rattle.of_detok.specs.Listing.{line_text}
use Rattle.of_detok.proofs.lister.write_token_line.Goals as goal

pub returns : goal.returns
unfolding line_text
returns c = search (append_assoc, rules)
