pub mod Order
pub mod Data
pub mod Reach
