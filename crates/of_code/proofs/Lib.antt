pub mod CodeLemmas
mod NumberingLemmas
