pub mod ListEntries
pub mod MoreLaws
pub mod PageRows
pub mod TellLaws
pub mod TxnLaws
pub mod WriteLaws
