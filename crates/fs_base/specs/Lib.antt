pub mod Config
pub mod Gives
pub mod Names
pub mod Paths
