pub mod FeedLemmas
pub mod TurnLemmas
pub mod TellLemmas
pub mod StepLemmas
pub mod FaithfulLemmas
pub mod StopLemmas
pub mod AgreeLemmas
pub mod GoingLemmas
