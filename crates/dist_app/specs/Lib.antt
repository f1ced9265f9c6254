pub mod CarriedPrivate
pub mod Complete
pub mod Headline
pub mod LawsPrivate
pub mod Run
pub mod Stopped
pub mod Truth
