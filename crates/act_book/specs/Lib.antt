pub mod Entries
pub mod Order
pub mod Rates
pub mod Runs
