pub mod WithinLemmas
pub mod MarkLemmas
