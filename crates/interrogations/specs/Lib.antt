pub mod Interrogations
