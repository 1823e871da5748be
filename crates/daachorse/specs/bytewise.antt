pub mod Accelerated
pub mod Automata
pub mod Building
pub mod ReadForms
pub mod WrittenForms
pub use Rattle.daachorse_bytewise_states.specs.PartForms
pub use Rattle.daachorse_bytewise_states.specs.StateRows
