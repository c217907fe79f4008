pub mod Document
pub mod Keys
pub mod Reads
pub mod Registers
pub mod Values
