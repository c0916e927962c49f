pub mod Handler
