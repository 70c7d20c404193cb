pub mod Childless
