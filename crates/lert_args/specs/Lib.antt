pub mod Answered
pub mod App
pub mod Command
pub mod Lookups
pub mod Names
pub mod Said
pub mod Scan
pub mod Word
