pub mod Attr
pub mod Beginning
pub mod Changing
pub mod Ending
