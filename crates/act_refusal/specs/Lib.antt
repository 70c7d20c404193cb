pub mod Known
pub mod Refusal
pub mod Steps
