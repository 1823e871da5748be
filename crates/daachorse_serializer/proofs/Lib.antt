pub mod Items
pub mod Sizes
pub mod Reading
