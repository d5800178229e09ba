pub mod Filled
pub mod Streams
