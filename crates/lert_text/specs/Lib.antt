pub mod Drill
pub mod Page
pub mod Parts
pub mod StatusLine
