pub mod Moments
pub mod GatedLaws
pub mod Appending
pub mod Looking
pub mod Deciding
pub mod Costs
pub mod Announcing
pub mod Seen
