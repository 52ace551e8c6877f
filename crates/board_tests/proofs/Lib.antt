pub mod FirstErrands
pub mod Own
