pub mod NumbersLemmas
pub mod HeldLemmas
pub mod ItemLemmas
pub mod LaidOutLemmas
pub mod StandingLemmas
pub mod ReplacedLemmas
pub mod SoundLemmas
pub mod KindLemmas
