pub mod CountLemmas
pub mod GapLemmas
pub mod RowLemmas
pub mod ScanLemmas
pub mod ViewLemmas
pub mod WordLemmas
