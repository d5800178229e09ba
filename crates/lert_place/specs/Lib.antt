pub mod Kept
pub mod Openings
pub mod Pair
pub mod Shelf
