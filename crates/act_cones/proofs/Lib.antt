pub mod Ascending
pub mod Coned
pub mod FewEvents
pub mod Lists
pub mod Orders
pub mod Ranked
pub mod Reached
pub mod Weighed
