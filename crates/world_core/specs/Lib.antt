pub mod EventList
pub mod Objects
pub mod Order
pub mod World
