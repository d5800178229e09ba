mod Examples
pub mod AddingLaws
mod LookExamples
pub mod Deciding
pub mod InOrder
pub mod TimelyTests
pub mod TraceLaws
