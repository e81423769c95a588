pub mod Counted
pub mod EvenFree
pub mod Tables
