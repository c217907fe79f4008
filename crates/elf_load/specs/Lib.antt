pub mod Fields
pub mod File
pub mod Layout
pub mod Loading
pub mod Numbers
pub mod Overlap
pub mod Symbols
