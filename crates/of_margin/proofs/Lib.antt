pub mod MarginLemmas
