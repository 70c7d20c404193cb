pub mod Driven
pub mod Evaluation
pub mod Work
