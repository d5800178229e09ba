pub mod Bytes
pub mod Covers
