pub mod Turn
pub mod Rule
pub mod Plays
pub mod Passes
pub mod Calls
