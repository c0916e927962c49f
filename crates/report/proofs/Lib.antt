pub mod Packing
pub mod Each
pub mod Report
pub mod Ordering
pub mod Order
pub mod Single
pub mod Cases
