pub mod Around
pub mod Cells
pub mod Contents
pub mod Growing
pub mod Layout
pub mod Rows
pub mod Spill
pub mod Standing
