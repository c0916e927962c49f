pub mod Turns
pub mod Image
pub mod Entry
