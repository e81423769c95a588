pub mod Answers
pub mod Fares
pub mod Rankings
pub mod Rides
