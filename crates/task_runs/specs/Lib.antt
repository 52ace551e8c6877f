pub mod Awaiting
