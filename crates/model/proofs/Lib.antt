pub mod Limits
pub mod Within
pub mod Requests
pub mod Groups
pub mod Placing
