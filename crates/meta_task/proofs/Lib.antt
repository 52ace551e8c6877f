pub mod AskLaws
pub mod KeptLaws
pub mod Queries
pub mod TakeLaws
pub mod UnderLaws
