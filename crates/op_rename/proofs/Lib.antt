pub mod ClimbSteps
pub mod MoveLaws
pub mod MovePuts
pub mod PlaceLaws
pub mod SourceLaws
pub mod StartLaws
