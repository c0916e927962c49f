pub mod Places
pub mod Answer
pub mod Reached
pub mod Alone
pub mod Sets
