pub mod Relation
pub mod Partition
pub mod Top
pub mod Examples
pub mod Found
pub mod TotalLaws
