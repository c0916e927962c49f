pub mod Turns
pub mod Writing
pub mod Entry
