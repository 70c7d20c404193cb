pub mod Beside
pub mod Ends
pub mod KnownLines
pub mod Text
