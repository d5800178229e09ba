pub mod Gathering
pub mod Weaving
pub mod Lists
mod Passing
mod Pouring
mod Shared
mod Manning
mod Returning
mod Crewing
