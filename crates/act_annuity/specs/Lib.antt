pub mod Kept
pub mod Passes
pub mod Payment
