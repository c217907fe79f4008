pub mod Units
pub mod Members
pub mod Moves
pub mod Placing
pub mod Totals
pub mod Looking
pub mod Fixing
