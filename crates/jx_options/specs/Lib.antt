pub mod Choices
pub mod Values
pub mod Wanted
pub mod Work
pub mod Names
pub mod Volumes
pub mod Orders
-- Inner: no other crate cites these.
pub mod Parts
