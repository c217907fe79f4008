pub mod Calls
pub mod Plays
pub mod Rule
pub mod Seats
pub mod Turns
