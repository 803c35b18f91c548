-- Stacks, Runs: elements that are compiled from a stack of open structures on, each with where it will end, and their
-- items. Filling, Compiled: compiled element by element they close all and leave these items. Complete: elements that
-- close all run so.
-- Kept, Targets: where the structures and the items of such elements go.
-- Seen, Shown, Prints: what `see` prints of these items, by their numbers, runs too, with no more structures open.
-- NamedWords, ScansBack: what is printed of a definition, read word by word.
-- Cells, Laid: on the items' cells `see` prints the same. Whole: the law. FinishedWords: the law on finished words.
mod Stacks
mod Runs
mod Filling
mod Compiled
mod Complete
mod Kept
mod Seen
mod Shown
mod Prints
mod Targets
mod Cells
mod Laid
mod Whole
mod FinishedWords
mod NamedWords
mod ScansBack
