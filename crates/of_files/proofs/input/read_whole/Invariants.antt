use Rattle.std.proofs.Common.{◌≤◌, length}
use Rattle.std.specs.Io.KnownBytes.{Consumes}
use Rattle.of_files.proofs.input.read_whole.Given as goal

-- what was read is what the file has lost, a byte or more a read
abbrev pub invariant-loop : goal.invariant-loop
invariant-loop g l =
    Consumes (g.R.Read.remaining l.initial.file) (g.R.Read.remaining l.file) l.text.items
    × (l.counter ≤ length l.text.items)
