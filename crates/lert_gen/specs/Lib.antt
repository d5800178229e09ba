pub mod Generated
pub mod Writing
