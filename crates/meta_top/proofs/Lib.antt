pub mod Alone
pub mod Due
pub mod Effects
pub mod Marks
