pub mod Interface
pub mod Calls
