pub mod Answering
pub mod Counting
pub mod Rewriting
pub mod Algebra
pub mod Bytes
pub mod Shifting
pub mod Adding
pub mod Knowing
