pub mod Answered
pub mod Entries
pub mod Nodes
pub mod Served
pub mod Sound
