pub mod PlanText
pub mod FollowText
pub mod FollowTextLaws
pub mod Left
pub mod LeftExamples
pub mod PlanTextExamples
