pub mod Lines
pub mod Said
pub mod Calls
pub mod Answers
pub mod Boards
pub mod ConsoleLines
pub mod Scripts
pub mod GivenUp
