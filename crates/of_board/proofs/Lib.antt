-- Nest: which instances are released at the end of a load.
pub mod Nest
