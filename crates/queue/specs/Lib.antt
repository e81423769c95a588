pub mod Lexical
pub mod Order
pub mod Pairs
pub mod Waiting
