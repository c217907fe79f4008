pub mod Known
pub mod Fixed
pub mod Rules
pub mod Remembered
