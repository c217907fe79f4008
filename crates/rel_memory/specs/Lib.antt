pub mod Contents
pub mod Log
pub mod Meeting
pub mod Selecting
pub mod Spanning
