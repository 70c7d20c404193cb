pub mod Amounts
pub mod Kinds
