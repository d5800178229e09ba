pub mod Ranges
pub mod Rows
pub mod Young
pub mod Loading
pub mod Landing
pub mod Checked
pub mod Named
