use Rattle.of_rom.proofs.Pieces.{pieces_are_read}
use Rattle.of_rom.proofs.laws.pieces_are_read.Goals as goal

pub returns : goal.returns
returns c = pieces_are_read
