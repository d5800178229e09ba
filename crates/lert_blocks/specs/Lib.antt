pub mod Text
pub mod Grammar
pub mod Walk
pub mod Frame
pub mod Decoding
pub mod Filling
