pub mod Cones
pub mod Counts
