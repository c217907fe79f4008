pub mod Count
pub mod Told
pub mod Calls
pub mod Files
pub mod Memory
pub mod Real
