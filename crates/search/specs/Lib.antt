pub mod Answers
pub mod Lines
pub mod Stages
pub mod Tables
