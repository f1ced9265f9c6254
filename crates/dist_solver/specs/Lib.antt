pub mod Derived
pub mod Kept
pub mod Evidence
pub mod Ask
pub mod RefusalPrivate
pub mod ShownPrivate
pub mod LearningPrivate
pub mod Examples
