-- The goals at which wrong bodies are refused.
use Rattle.std.proofs.Common.{rules}
use Rattle.of_detok.specs.Listing.{lines_of}
use Rattle.of_detok.proofs.lister.partial_listing.Goals as goal

pub returns : goal.returns
unfolding lines_of
returns c = search rules
