pub mod Encoding
pub mod Fields
pub mod Instructions
pub mod Table
pub mod Text
