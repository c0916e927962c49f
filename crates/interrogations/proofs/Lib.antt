pub mod Resets
pub mod Laws
