pub mod Words
pub mod Script
pub mod Asking
pub mod LineLaws
pub mod RangeLaws
pub mod TrueOnesLaws
pub mod ScriptLaws
