pub mod Agreed
pub mod Beginning
pub mod Examples
pub mod Format
pub mod Heading
pub mod Pending
pub mod Standing
pub mod Steps
