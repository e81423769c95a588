pub mod Accepts
pub mod Encodes
pub mod Exactly
pub mod Laws
pub mod Records
pub mod Runs
pub mod Verdicts
pub mod Walks
