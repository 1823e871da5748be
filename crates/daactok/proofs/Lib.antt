pub mod EmptyText
pub mod Parts
