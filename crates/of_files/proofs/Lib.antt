pub mod Ends
pub mod Programs
pub mod Reading
pub mod Replies
pub mod Said
pub mod Texts
pub mod Written
