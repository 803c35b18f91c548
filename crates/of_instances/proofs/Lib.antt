-- Above: properties through the parents of an instance, one instance at a time.
-- ListedWords: the law `tree_words_throw_listed`.
-- SpaceKept, PropertySpace, TreeSpace: the law `words_keep_the_space`, from calls up to words over properties, and over
-- packages and instances.
-- Openings: the law `instances_open`.
-- Numbers: the numbers of a physical address, one at a time.
-- NoRoom: cells that have no room at `here`.
-- Under: cells under others on the stack, one more at a time.
pub mod Above
pub mod SpaceKept
pub mod PropertySpace
pub mod TreeSpace
pub mod ListedWords
pub mod NoRoom
pub mod Numbers
pub mod Openings
pub mod Under
