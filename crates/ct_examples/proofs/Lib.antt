pub mod Arithmetic
pub mod Instructions
pub mod Policies
pub mod Runs
pub mod Words
