pub mod Effects
pub mod Requests
pub mod Batches
pub mod Histories
pub mod Gentle
