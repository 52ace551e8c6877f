pub mod Events
pub mod Kept
pub mod Left
pub mod Ready
pub mod Seats
pub mod Servers
