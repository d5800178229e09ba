pub mod Kept
pub mod Places
pub mod Search
