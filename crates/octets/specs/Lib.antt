pub mod Over
pub mod Number
