pub mod Weekdays
pub mod Months
pub mod Shifts
