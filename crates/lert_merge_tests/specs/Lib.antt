pub mod Sorted
pub mod TwoPieces
