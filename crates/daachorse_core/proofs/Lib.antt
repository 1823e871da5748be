pub mod OutputLists
pub mod Xor
pub mod Refusals
pub mod Failures
