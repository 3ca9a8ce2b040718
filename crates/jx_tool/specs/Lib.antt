-- Inner: no other crate cites these.
pub mod Ended
