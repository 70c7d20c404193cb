pub mod Dropping
pub mod Keeping
pub mod Latest
pub mod Ready
pub mod Tasks
pub mod Wanting
pub mod Work
