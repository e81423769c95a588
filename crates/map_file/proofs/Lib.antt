pub mod Maps
pub mod Rewrites
pub mod Splices
pub mod Starts
