pub mod Contracts
pub mod Legs
pub mod Pairs
pub mod Partners
pub mod Plans
pub mod Walks
