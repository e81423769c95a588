pub mod Costs
pub mod Points
pub mod Seconds
