pub mod Begins
pub mod Growth
pub mod Halves
pub mod Place
pub mod RunText
pub mod Search
