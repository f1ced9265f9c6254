pub mod LineParts
pub mod ListedPrivate
pub mod NamedPackage
pub mod OneAnswer
pub mod PackageSet
