pub mod Fields
pub mod Quoting
pub mod Reading
pub mod Results
pub mod Tree
