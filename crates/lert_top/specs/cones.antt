pub mod Asked
pub mod Closed
pub mod Finish
pub mod Print
pub mod Printed
pub mod Unmade
