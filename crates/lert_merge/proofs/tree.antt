pub mod MaskLemmas
pub mod PathLemmas
pub mod OrderLemmas
pub mod ReplayLemmas
pub mod BeginLemmas
pub mod TreeLemmas
pub mod Examples
