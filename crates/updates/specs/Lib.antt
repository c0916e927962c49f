pub mod Updates
pub mod Values
