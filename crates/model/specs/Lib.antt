pub mod Place
pub mod Limits
pub mod Request
