pub mod Points
pub mod Stations
pub mod Parse
pub mod Shares
pub mod Cut
pub mod Change
pub mod Case
pub mod Settings
