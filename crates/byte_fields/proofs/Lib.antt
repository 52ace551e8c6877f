pub mod Bytes
pub mod FieldLaws
pub mod FormLaws
pub mod InRange
pub mod Lists
pub mod Numbers
pub mod Spellings
