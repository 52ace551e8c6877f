pub mod Held
pub mod Keys
pub mod Ranges
pub mod Reads
pub mod Rows
pub mod Writes
