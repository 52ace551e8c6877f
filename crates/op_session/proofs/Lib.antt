pub mod HeldLaws
pub mod HintRows
pub mod OpenLaws
pub mod Ranges
