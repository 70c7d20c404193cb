pub mod Fit
pub mod Known
pub mod Reading
