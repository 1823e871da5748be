pub mod Commands
pub mod Failures
pub mod FindCommands
pub mod IndexCommands
pub mod Modes
pub mod Runs
pub mod Sinks
pub mod Written
