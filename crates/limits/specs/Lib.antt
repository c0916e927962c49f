pub mod Test
pub mod Share
pub mod Size
pub mod Outcome
