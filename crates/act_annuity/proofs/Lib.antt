pub mod Passing
pub mod Divisors
pub mod Payments
pub mod Raising
pub mod Keeping
