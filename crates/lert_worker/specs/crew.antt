pub mod Passes
pub mod Shares
pub mod Sharing
pub mod Ready
pub mod Crewed
