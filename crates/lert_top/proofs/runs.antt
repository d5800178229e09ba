pub mod DoneLaws
pub mod Ending
pub mod RunLaws
