pub mod Bound
pub mod Graphed
pub mod Linked
pub mod Named
pub mod Shadowed
pub mod Unchanged
