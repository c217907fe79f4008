pub mod Kind
pub mod Report
pub mod Places
pub mod Outcomes
