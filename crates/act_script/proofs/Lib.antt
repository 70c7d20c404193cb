mod Adding
mod Cutting
mod EntryForms
mod Members
mod PlainEvents
mod PlainRates
mod ScriptLines
mod Soundness
pub mod Weighing
