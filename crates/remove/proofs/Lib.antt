pub mod Removed
pub mod Emptied
pub mod Entry
