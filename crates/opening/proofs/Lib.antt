pub mod Plan
pub mod Fresh
pub mod Cases
pub mod Tests
