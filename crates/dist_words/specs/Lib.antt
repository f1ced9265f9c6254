pub mod Clap
pub mod CommandLine
pub mod Lines
pub mod SimpleCommandPrivate
pub mod Table
pub mod TableExamples
