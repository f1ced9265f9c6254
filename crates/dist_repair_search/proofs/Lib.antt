pub mod FoundLemmas
pub mod StepLemmas
pub mod SearchLemmas
pub mod StartLemmas
