pub mod Undoing
pub mod OuterLaws
pub mod PeelLaws
pub mod KeepLaws
pub mod Growing
