pub mod tree
pub mod order
pub mod Givers
pub mod Merging
