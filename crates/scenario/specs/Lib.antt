pub mod Broken
pub mod Json
pub mod Numbers
pub mod Ops
pub mod Scenario
pub mod Schedule
pub mod Stops
