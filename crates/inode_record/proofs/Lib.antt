pub mod InodeLaws
pub mod InRange
