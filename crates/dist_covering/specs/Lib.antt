pub mod Used
pub mod Covering
pub mod OpenPairs
pub mod Group
pub mod Planning
pub mod ListLaws
pub mod PairLaws
