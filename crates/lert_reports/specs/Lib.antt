pub mod Log
pub mod LogRules
pub mod LogText
pub mod Stored
