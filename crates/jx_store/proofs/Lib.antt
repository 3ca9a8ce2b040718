pub mod Loads
pub mod Windows
pub mod Changes
pub mod Runs
pub mod NumberLemmas
