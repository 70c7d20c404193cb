pub mod Caller
pub mod Crew
pub mod Script
