pub mod Fields
pub mod Forms
pub mod Outcome
pub mod Spelling
