pub mod Fronts
pub mod Members
pub mod Ordering
pub mod Untouched
