pub mod Turns
pub mod Alone
pub mod Longer
pub mod Faults
pub mod Rooms
pub mod Lists
pub mod Flat
