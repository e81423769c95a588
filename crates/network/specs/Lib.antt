pub mod Meaning
pub mod Ranges
pub mod Refusals
pub mod Shown
