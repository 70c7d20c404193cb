pub mod Children
pub mod Kinds
pub mod Limits
pub mod Netting
pub mod PlainSwap
pub mod Signs
