pub mod Lengths
pub mod PlaceLemmas
pub mod LayLemmas
pub mod WriteLemmas
pub mod PassLemmas
pub mod ImageLemmas
mod Placed
mod AimLemmas
mod FollowLemmas
pub mod OrderLemmas
mod HeaderLemmas
pub mod OriginLemmas
