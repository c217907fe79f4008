pub mod Words
pub mod Traces
pub mod Answer
pub mod Showing
