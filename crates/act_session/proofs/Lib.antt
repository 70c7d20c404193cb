pub mod Closed
pub mod Interleaved
pub mod Lists
pub mod Marks
pub mod Moving
pub mod Played
pub mod Playing
pub mod Together
