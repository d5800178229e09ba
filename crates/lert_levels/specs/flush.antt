pub mod Merged
pub mod Staying
pub mod Writing
