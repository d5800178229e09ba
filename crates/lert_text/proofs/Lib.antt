mod Digits
pub mod Printing
pub mod Rows
