-- Aims: where branches lead. Elements, Leaving: the elements that the words of a nest leave, which are those of its
-- tokens. Stack: what the control stack does at one element. Following: at all elements of a nest. Accepted: so are the
-- definitions of an accepted source. Bodies: the law.
pub mod Aims
pub mod Elements
pub mod Leaving
pub mod Stack
pub mod Following
pub mod Accepted
pub mod Bodies
