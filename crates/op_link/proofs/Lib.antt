pub mod JoinLaws
pub mod LeaveLaws
pub mod RemoveLaws
pub mod SourceLaws
pub mod StartLaws
