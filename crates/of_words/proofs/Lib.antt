-- Blanks: a number of blanks, for `spaces`.
-- Aligning: `here` at the next multiple of 4, for `align`.
-- ConsoleListed: the law `console_words_throw_listed`.
-- ConsoleSpace: the law `console_words_keep_the_space`.
-- Sequences: the law `console_words_are_sequences`.
pub mod Blanks
pub mod Aligning
pub mod ConsoleListed
pub mod ConsoleSpace
pub mod Sequences
