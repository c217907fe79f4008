pub mod PairText
pub mod FirstBadLine
pub mod Replaying
pub mod ReplayText
