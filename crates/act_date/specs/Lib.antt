pub mod Civil
pub mod Cycle
pub mod CycleText
pub mod DayCount
pub mod Fraction
pub mod JiffDate
pub mod Text
