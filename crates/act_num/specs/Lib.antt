pub mod Decimal
pub mod Digits
pub mod Factor
pub mod Number
pub mod Parts
