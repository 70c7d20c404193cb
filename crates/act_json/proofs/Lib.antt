pub mod Pieces
pub mod Readings
pub mod Lengths
pub mod Trees
pub mod TreeNames
