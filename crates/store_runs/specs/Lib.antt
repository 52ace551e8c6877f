pub mod TwoKeys
