pub mod Bin
pub mod BinSet
pub mod Asked
pub mod Tables
pub mod BinLaws
pub mod SetLaws
pub mod StayLaws
