pub mod Header
pub mod Journal
pub mod Payload
pub mod Cost
