pub mod Beginning
pub mod Create
pub mod NewRows
