pub mod OutdatedPrivate
