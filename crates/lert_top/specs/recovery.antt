pub mod Moments
pub mod Recovered
