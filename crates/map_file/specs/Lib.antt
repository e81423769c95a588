pub mod Maps
pub mod Networks
pub mod Steps
pub mod Views
pub mod Writing
