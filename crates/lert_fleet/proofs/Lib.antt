pub mod Places
pub mod Eachwise
pub mod Turning
pub mod Joining
pub mod Splitting
pub mod Closing
pub mod Locking
