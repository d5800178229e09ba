pub mod Ran
pub mod Run
