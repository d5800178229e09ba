pub mod Headed
pub mod Opened
pub mod Read
pub mod Repeated
