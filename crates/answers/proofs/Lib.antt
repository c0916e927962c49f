pub mod Common
pub mod Values
pub mod Quiet
pub mod Cases
pub mod Ends
pub mod Proposals
