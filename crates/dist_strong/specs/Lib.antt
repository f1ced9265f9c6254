pub mod Group
pub mod Candidates
pub mod SettlingPrivate
pub mod ClaimingPrivate
