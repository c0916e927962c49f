pub mod Tests
pub mod Sizes
pub mod Outcomes
pub mod Shares
pub mod Cases
