pub mod Summary
pub mod FiguresPrivate
pub mod Trial
pub mod ClaimingPrivate
