pub mod Answering
pub mod Conflicts
pub mod Continuing
pub mod Covered
pub mod Ending
pub mod Files
pub mod Growing
pub mod Rows
