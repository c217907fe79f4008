pub mod Writing
pub mod RangeLaws
pub mod ChoiceLaws
pub mod SpanLaws
pub mod Cells
pub mod GrowthLaws
pub mod ReadLaws
