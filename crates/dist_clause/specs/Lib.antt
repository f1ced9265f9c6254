pub mod Formula
pub mod ClauseList
pub mod Demands
pub mod DemandLaws
pub mod Stored
pub mod WordsPrivate
pub mod Examples
