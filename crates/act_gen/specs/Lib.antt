pub mod Draws
pub mod Json
pub mod Members
pub mod Portfolio
pub mod Script
