pub mod Arrivals
pub mod Meanings
pub mod Sounds
pub mod Steps
pub mod Tables
