pub mod Refuted
pub mod Rejection
pub mod Lines
