-- What device memory is to its callers.
use Rattle.std.specs.Prelude.{ℕ, List}
use Rattle.of_cells.specs.declared.cells.Cell.{Cell}

-- bytes from an address on
pub record Stored : Type 0 where
  pub address : Cell
  pub bytes : List ℕ
