pub mod ChallengedPrivate
pub mod GroupPrivate
pub mod BegunPrivate
