pub mod Cycle
pub mod Distance
pub mod Order
pub mod Ordered
pub mod Path
pub mod Peeled
pub mod Settled
pub mod Turned
