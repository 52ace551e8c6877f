pub mod Answers
pub mod Causes
pub mod InMemory
pub mod Reading
pub mod Standard
