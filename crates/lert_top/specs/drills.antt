pub mod Dealt
pub mod Drilled
pub mod Print
