-- what public clauses cite: what is printed, its text, and which bytes are one
pub mod Printed
pub mod Text
pub mod Conditions
pub mod Faults
pub mod Laws
-- how reading goes line by line and word by word, which the proofs alone rest on
pub mod Words
pub mod LineWords
pub mod Reading
pub mod Giving
