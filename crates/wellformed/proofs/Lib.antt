pub mod Heads
pub mod Turns
pub mod Shares
pub mod Tests
pub mod Whole
