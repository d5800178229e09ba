pub mod Header
pub mod Reader
pub mod Trace
pub mod Window
