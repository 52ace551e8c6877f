pub mod Ops
pub mod State
pub mod Steps
pub mod Task
