pub mod Flat
pub mod Ordered
pub mod Raised
pub mod Storing
pub mod Entry
