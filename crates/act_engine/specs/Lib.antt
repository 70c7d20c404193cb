pub mod Ending
pub mod Reading
pub mod Refusal
pub mod Status
pub mod Telling
pub mod Writing
