pub mod Kinds
pub mod RedemptionDates
pub mod Resets
pub mod Tables
