pub mod Faults
pub mod Gathered
pub mod Memory
pub mod Page
pub mod World
