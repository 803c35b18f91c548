pub mod Walks
pub mod Said
pub mod Adjoining
pub mod Programs
pub mod Moved
pub mod Pieces
