pub mod TableLaws
pub mod AskLaws
pub mod BeginLaws
pub mod BegunLaws
pub mod FreshLaws
pub mod NextLaws
