pub mod Follow
pub mod Lines
pub mod Namings
pub mod Places
pub mod Relaxes
pub mod Tables
pub mod Whole
