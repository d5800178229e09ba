pub mod KeyLaws
pub mod LineLaws
pub mod Adding
pub mod WeightLaws
pub mod JoinLaws
pub mod WeaveLaws
pub mod NumberLaws
