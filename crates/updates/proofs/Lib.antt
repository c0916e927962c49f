pub mod Values
pub mod Meant
pub mod Stored
pub mod Told
pub mod Sizes
pub mod Turns
