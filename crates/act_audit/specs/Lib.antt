pub mod Audit
pub mod Journal
pub mod Judging
pub mod Laws
pub mod Order
pub mod Text
pub mod Verdict
pub mod Words
