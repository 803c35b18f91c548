-- The widths of accesses.
use Rattle.std.specs.Prelude.{ℕ}
use Rattle.of_memory.specs.declared.width.Width.{Width}
use Rattle.of_memory.specs.declared.width.Width.TheVariants.{One, Two, Four}

-- how many bytes an access of the width reads or writes
abbrev pub bytes_in : Width → ℕ
bytes_in One = 1
bytes_in Two = 2
bytes_in Four = 4
