mod Alike
mod Distinct
pub mod Rules
mod Values
