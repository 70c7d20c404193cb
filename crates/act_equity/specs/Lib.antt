pub mod Kinds
pub mod Outright
