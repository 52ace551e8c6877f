pub mod ClientBytes
pub mod Forms
pub mod KeyLaws
pub mod Orders
pub mod Prefixes
