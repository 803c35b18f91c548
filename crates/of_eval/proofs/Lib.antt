-- Registers: what the functions on single registers make of them is what acts do.
-- Executed: executing a word, one word at a time.
-- Keeping: what `to` does.
-- Called: why a word doesn't call a method.
-- Endings: what calls on definitions leave of the whole state.
-- MethodLemmas: words that become methods of a package.
-- Strings: strings that are compiled.
pub mod Registers
pub mod Executed
pub mod Keeping
pub mod Called
pub mod Endings
pub mod MethodLemmas
pub mod Strings
mod NamingLemmas
