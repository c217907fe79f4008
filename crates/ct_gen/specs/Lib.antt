pub mod Blocks
pub mod Code
pub mod Files
pub mod Building
pub mod Summary
