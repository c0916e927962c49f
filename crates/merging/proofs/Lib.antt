pub mod Joined
pub mod Turns
pub mod Numbers
pub mod Differ
