pub mod Made
pub mod Flushing
pub mod Unchanged
pub mod Calls
