pub mod Agreeing
pub mod Copies
pub mod Listing
pub mod Pages
pub mod Transactions
pub mod Tries
pub mod Wanted
pub mod Writes
