pub mod Bits
pub mod Division
pub mod Filled
pub mod Number
pub mod Signs
pub mod Operations
