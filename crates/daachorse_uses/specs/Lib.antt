pub mod Copies
pub mod Covered
pub mod Found
pub mod Ratings
pub mod Secrets
