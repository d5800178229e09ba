pub mod Fault
pub mod Memory
pub mod Reading
pub mod Trail
