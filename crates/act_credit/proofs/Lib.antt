pub mod Contracts
pub mod CreditDays
pub mod LastRows
pub mod CodesRead
pub mod Sums
