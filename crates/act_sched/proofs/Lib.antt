pub mod Rising
pub mod CycleDates
pub mod DatesBefore
pub mod Members
pub mod Counts
pub mod ByPlace
pub mod SoFar
