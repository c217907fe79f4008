pub mod Records
pub mod Spans
