-- Groups: digits in groups of four. Listed: a line for each property. NodeTexts: each node of the tree, in preorder.
-- LinkLemmas: which node each is followed by.
-- ChildLists: a line for each child.
-- NameLists: the names that `words` prints.
-- Shown, Named, NamesListed: the laws.
mod Groups
mod Listed
mod NodeTexts
mod LinkLemmas
mod ChildLists
mod Shown
mod Named
mod NameLists
mod NamesListed
