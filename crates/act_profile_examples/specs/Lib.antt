pub mod Examples
pub mod Special
pub mod Tables
pub mod Worked
