pub mod Closing
pub mod OrderLaws
pub mod Righting
pub mod Waiting
