pub mod Chains
pub mod Follow
pub mod Types
pub mod Meaning
