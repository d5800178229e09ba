pub mod Moments
pub mod Replayed
pub mod Reopened
pub mod Rest
pub mod Shown
pub mod Unharmed
