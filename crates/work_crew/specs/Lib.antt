pub mod Crew
pub mod Exploring
pub mod Merging
pub mod Recorded
pub mod Sums
pub mod TrueRecords
