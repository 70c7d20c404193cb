pub mod Causality
pub mod Example
