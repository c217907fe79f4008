pub mod Kept
pub mod Outer
pub mod Peeling
