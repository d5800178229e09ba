pub mod Contents
pub mod Place
