pub mod Each
pub mod Cones
pub mod Rows
