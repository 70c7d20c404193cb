pub mod Job
pub mod Reading
pub mod Scripts
pub mod Weight
