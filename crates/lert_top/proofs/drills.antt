pub mod DealtLaws
pub mod DrillLaws
pub mod DrillTexts
pub mod HeavyTimes
pub mod NewBays
pub mod SameKeys
pub mod UnitLaws
