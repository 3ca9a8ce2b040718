pub mod Help
pub mod Text
-- Inner: no other crate cites these.
pub mod Choices
pub mod Differences
pub mod Faults
pub mod Limits
pub mod Names
pub mod Notes
pub mod Profile
pub mod Rules
pub mod Sentences
pub mod Shown
