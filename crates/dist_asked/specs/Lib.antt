pub mod Asked
pub mod Within
pub mod AskedPlaces
pub mod PlacedPrivate
pub mod AskedLaws
