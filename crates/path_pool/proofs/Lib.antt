pub mod Together
pub mod Joining
pub mod Opening
pub mod SeatLaws
pub mod Stepping
pub mod Totals
pub mod Turning
pub mod WaitingLaws
