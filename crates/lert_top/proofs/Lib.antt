pub mod NoLine
pub mod OtherLines
