pub mod Filled
pub mod ItemsOf
pub mod Levels
pub mod WeaveExamples
