pub mod Whole
pub mod Landed
pub mod Landings
pub mod Summed
pub mod CostLaws
