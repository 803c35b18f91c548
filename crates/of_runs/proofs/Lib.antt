-- Printed: what a run has printed stays while it goes on.
-- Kept: what goes out of stretches, one behind another.
pub mod Printed
pub mod Kept
