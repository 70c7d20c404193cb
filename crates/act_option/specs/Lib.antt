pub mod Earliest
pub mod Kinds
pub mod Settling
