pub mod AgreedLaws
mod Examples
pub mod ItemBytes
pub mod HeaderLaws
pub mod PayloadBack
pub mod PayloadLaws
pub mod PayloadWhole
pub mod OneAnswer
pub mod BeginningLaws
pub mod Costs
pub mod Leaving
pub mod TextLaws
