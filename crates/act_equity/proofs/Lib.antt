pub mod Contracts
pub mod Outrights
