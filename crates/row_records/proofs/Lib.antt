pub mod CallLaws
pub mod InRange
pub mod ReplyLaws
pub mod RowLaws
