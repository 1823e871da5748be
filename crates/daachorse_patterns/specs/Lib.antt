pub mod Prefixes
pub mod Tries
pub mod Patterns
pub mod Building
pub mod Documents
pub mod Filters
pub mod Settled
