pub mod KeptLemmas
pub mod TestedLemmas
pub mod RefutationLemmas
pub mod EvidenceLemmas
