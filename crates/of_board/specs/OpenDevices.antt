-- The open `new-device`s (IEEE 1275-1994, annex A, `new-device` and `finish-device`).
use Rattle.std.specs.Prelude.{ℕ, List}
use Rattle.of_board.specs.declared.active.NewDevice.{NewDevice}

pub record OpenDevices : Type 0 where
  -- those that are open, the oldest first
  pub opened : List NewDevice
  -- how many were ever opened
  pub ever : ℕ
