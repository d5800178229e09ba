pub mod Brings
pub mod Ends
pub mod Outbox
pub mod Ran
pub mod Runs
pub mod Sending
pub mod Trace
pub mod crew
