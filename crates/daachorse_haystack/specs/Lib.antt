pub mod Sources
pub mod ByteSources
pub mod Readings
pub mod Filters
pub mod TextSources
pub mod DecodedSources
pub mod Midway
