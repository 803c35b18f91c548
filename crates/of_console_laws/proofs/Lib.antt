-- Lines: printable bytes, and the law `listings_are_lines`. Names: the names of properties stay such as they may have.
pub mod Lines
pub mod Names
