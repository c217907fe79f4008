pub mod Ranges
pub mod Hex
pub mod Agreement
pub mod Words
