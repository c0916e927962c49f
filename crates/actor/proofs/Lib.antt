pub mod Rooms
pub mod Register
pub mod Unregister
