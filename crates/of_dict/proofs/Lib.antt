pub mod Headers
pub mod Indexes
pub mod LawLemmas
pub mod Searches
