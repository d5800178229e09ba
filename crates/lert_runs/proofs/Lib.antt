pub mod BeforeLemmas
pub mod BeginLemmas
pub mod CutLemmas
pub mod GrowLemmas
pub mod ReadLemmas
pub mod RunLemmas
pub mod SearchLemmas
pub mod WalkLemmas
