pub mod Packing
pub mod Selection
pub mod Report
pub mod Order
pub mod Single
pub mod Terms
