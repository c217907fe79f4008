pub mod Memory
pub mod Rows
pub mod StepLaws
pub mod TrailLaws
