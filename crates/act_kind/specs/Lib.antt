pub mod Insertion
pub mod Payment
pub mod Takes
pub mod Types
