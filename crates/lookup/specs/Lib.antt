pub mod Seats
pub mod Find
