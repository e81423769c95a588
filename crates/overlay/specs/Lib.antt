pub mod Laws
pub mod Marks
pub mod Meanings
pub mod Rules
pub mod Sounds
pub mod Waiting
