pub mod Binding
pub mod Links
