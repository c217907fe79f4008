pub mod Accepted
pub mod Names
pub mod Overlaps
pub mod Places
pub mod Tables
