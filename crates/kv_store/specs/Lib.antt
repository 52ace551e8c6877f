pub mod Journal
pub mod Store
pub mod Causes
pub mod Commits
pub mod Later
pub mod Chains
pub mod Versions
