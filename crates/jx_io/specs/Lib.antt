pub mod Causes
pub mod Device
pub mod Stored
-- Inner: no other crate cites these.
pub mod Drafts
pub mod Shown
