pub mod Draws
pub mod Generator
pub mod Packages
pub mod StepsPrivate
pub mod Archive
pub mod Examples
