pub mod Asking
pub mod Going
pub mod Lists
pub mod Readable
pub mod Reading
pub mod Regular
pub mod Scripting
