pub mod Census
pub mod Tally
pub mod Short
