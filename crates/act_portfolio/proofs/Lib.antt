pub mod Accepting
pub mod Finished
pub mod Fitted
pub mod Listed
pub mod PerContract
pub mod Unrolling
