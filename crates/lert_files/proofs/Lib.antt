mod Examples
pub mod GateLaws
pub mod HeadLaws
pub mod LeavesLaws
pub mod LeftLaws
pub mod OpenedLaws
pub mod PointLaws
pub mod QuietLaws
pub mod RecordsLaws
pub mod RepeatLaws
pub mod StartLaws
pub mod StepLaws
pub mod WholeLaws
