pub mod Kinds
pub mod Payments
