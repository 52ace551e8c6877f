pub mod Adding
pub mod Errands
