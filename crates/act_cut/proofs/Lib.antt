pub mod Halving
pub mod Cuts
pub mod Least
pub mod Rising
pub mod Listed
