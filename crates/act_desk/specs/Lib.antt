pub mod Calls
pub mod Desk
pub mod Making
pub mod Step
pub mod Turns
