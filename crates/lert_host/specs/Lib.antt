pub mod PutBack
pub mod Name
