pub mod Going
pub mod Places
pub mod Reaching
