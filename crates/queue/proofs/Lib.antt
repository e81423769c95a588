pub mod Pops
pub mod Rows
