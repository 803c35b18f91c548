use Rattle.std.proofs.Common.{◌≤◌, ◌+◌, ◌*◌}
use Rattle.of_files.specs.Files.{counted, Decides}
use Rattle.of_files.proofs.input.read_image.Given as goal

-- the part that was read decides with what is left, and each read took a byte or more
abbrev pub invariant-loop : goal.invariant-loop
invariant-loop g l =
    Decides (g.R.Read.remaining l.initial.file) (g.R.Read.remaining l.file) l.part l.counter
    × (counted l.part ≤ 2 + 128 * l.counter)
