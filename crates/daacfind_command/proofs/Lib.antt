pub mod Built
pub mod EndsLaws
pub mod FindLaws
pub mod Finds
pub mod Gives
pub mod IndexLaws
pub mod Pieces
pub mod WrittenLaws
