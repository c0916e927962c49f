pub mod Answers
pub mod Interrogation
pub mod Shares
pub mod Cases
