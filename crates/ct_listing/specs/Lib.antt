pub mod List
pub mod Trace
