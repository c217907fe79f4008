pub mod Row
pub mod State
pub mod Step
pub mod Trail
