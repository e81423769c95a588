pub mod Certificate
pub mod Claims
pub mod Deviation
pub mod Labels
pub mod Pool
pub mod Progress
pub mod Routes
