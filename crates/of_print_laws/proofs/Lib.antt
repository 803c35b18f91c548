-- PropertyWords, TreeWords: words over properties, packages and instances print nothing. Words: ordinary words and
-- words that ask. Acts: acts, and what comes next. Steps: the end of a step, steps, and the law `printed_stays`.
pub mod PropertyWords
pub mod TreeWords
pub mod Words
pub mod Acts
pub mod Steps
