pub mod History
pub mod Legal
pub mod Reached
