pub mod ChangeLaws
pub mod ReadLaws
