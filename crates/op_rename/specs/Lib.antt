pub mod Climb
pub mod Ending
pub mod Puts
pub mod Rename
pub mod Replace
