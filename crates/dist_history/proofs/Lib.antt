pub mod TextLemmas
pub mod FollowLemmas
pub mod MissingLemmas
