pub mod FreeLists
pub mod Layout
pub mod ListItems
pub mod Placement
pub mod Profiles
