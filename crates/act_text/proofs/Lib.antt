pub mod Again
pub mod Framed
pub mod KeptLines
pub mod PutTogether
