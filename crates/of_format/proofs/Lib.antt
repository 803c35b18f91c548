pub mod Numbers
pub mod ReadingBack
