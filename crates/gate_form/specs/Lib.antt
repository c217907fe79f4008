pub mod Net
pub mod Rules
pub mod Run
pub mod Values
