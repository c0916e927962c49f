pub mod Identification
pub mod Cause
pub mod Joined
pub mod Puts
pub mod Header
pub mod Command
pub mod Confirmation
