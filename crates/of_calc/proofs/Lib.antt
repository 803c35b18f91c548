-- ShapeLemmas: a word makes what its shape makes, for `calculate` and `compare`.
-- ListedLemmas: the law `calculations_throw_listed`.
pub mod ListedLemmas
pub mod ShapeLemmas
