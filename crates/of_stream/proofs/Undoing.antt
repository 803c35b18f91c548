-- What is appended in parts, and taken back.
use Rattle.std.proofs.Math.Seq.{take-append_seam}
use Rattle.std.proofs.lemmas.List.{append_assoc}

pub ruleset undoing = (append_assoc, take-append_seam)
