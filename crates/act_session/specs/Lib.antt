pub mod Interleaving
pub mod Playing
pub mod Seats
