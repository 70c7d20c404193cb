pub mod Ending
pub mod Halts
pub mod Lists
pub mod Reading
pub mod Telling
pub mod Texts
