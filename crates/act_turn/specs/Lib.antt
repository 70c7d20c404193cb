pub mod Journal
pub mod Standing
pub mod Steps
pub mod Turn
