pub mod Bytes
pub mod Spelling
pub mod Roots
pub mod Cone
pub mod WordMaps
pub mod NodeWords
pub mod Blasting
