pub mod Rising
pub mod Writing
