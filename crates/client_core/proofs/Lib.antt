pub mod Ending
pub mod Files
pub mod Fits
pub mod Courses
pub mod Moved
pub mod Replayed
pub mod Scripts
