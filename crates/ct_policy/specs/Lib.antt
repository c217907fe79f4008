pub mod ByteJob
pub mod Job
pub mod Limits
pub mod Numbers
pub mod Policy
pub mod Regions
pub mod Rules
pub mod Starting
