pub mod Bars
pub mod Ends
pub mod Entries
pub mod Legs
