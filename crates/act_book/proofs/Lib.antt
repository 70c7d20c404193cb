pub mod Filters
pub mod LatestRate
pub mod Ordered
pub mod RunLists
pub mod SortedRates
