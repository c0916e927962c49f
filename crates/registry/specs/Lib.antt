pub mod Effect
pub mod Registry
pub mod Opening
pub mod History
