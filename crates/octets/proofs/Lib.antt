pub mod Laws
pub mod Log
pub mod At
pub mod Zero
pub mod Limit
pub mod Bytes
