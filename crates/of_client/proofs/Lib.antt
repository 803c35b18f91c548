-- Values: the law `values_are_got`.
-- Names: the law `names_are_met`.
pub mod Values
pub mod Names
