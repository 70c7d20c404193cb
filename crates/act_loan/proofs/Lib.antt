pub mod Redemptions
pub mod Latest
pub mod Plans
pub mod Types
pub mod Contracts
