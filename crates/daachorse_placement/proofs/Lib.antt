pub mod FlagCounts
pub mod FreeListLaws
pub mod PlaceStart
pub mod PlaceSteps
pub mod VacantLists
