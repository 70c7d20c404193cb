pub mod Computed
pub mod ComputedSpecial
pub mod ComputedTables
pub mod OnLiterals
