pub mod Tokens
pub mod Structures
pub mod Findings
pub mod Table
pub mod Law
pub mod Texts
