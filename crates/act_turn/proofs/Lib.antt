pub mod Journals
pub mod Passes
pub mod Places
pub mod Rows
pub mod Slots
pub mod Steps
pub mod Tickets
