pub mod Gated
pub mod Kept
pub mod Looked
pub mod Written
pub mod Cost
