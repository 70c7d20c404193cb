pub mod States
pub mod Texts
pub mod Loops
pub mod Days
