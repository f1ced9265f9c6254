pub mod Places
pub mod Clustered
pub mod FoundLemmas
pub mod PartitionLemmas
pub mod SomePartition
pub mod SomeTops
pub mod TopLemmas
