pub mod Nodes
pub mod Typing
pub mod Growth
pub mod Folding
pub mod Valuations
pub mod Walk
