pub mod Exercised
pub mod FirstExercise
