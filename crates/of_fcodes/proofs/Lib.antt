-- Agreement, TableLemmas: places lead from FCodes to their rows, for the look-ups by number and `names_and_numbers`.
-- IndexLemmas: what is found by its hash is what the tables have, for the look-ups by name.
-- WrittenLemmas: `written_words_are_found`.
pub mod Agreement
pub mod TableLemmas
pub mod TokenLemmas
pub mod IndexLemmas
pub mod WrittenLemmas
