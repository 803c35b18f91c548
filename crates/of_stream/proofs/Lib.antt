pub mod Alone
pub mod ReadBack
pub mod Undoing
