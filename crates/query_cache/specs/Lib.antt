pub mod Cached
pub mod Looking
