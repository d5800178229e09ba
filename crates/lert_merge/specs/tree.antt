pub mod Race
pub mod Matches
