pub mod Actor
