-- Entered: what stands on the return stack where a definition begins.
pub mod Entered
