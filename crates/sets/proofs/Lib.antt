pub mod Counts
pub mod Puts
