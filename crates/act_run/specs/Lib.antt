pub mod Inputs
pub mod Limits
pub mod Planned
pub mod Resuming
