pub mod Blocks
pub mod DealLaws
pub mod RoundTrip
