pub mod Facts
pub mod File
-- Inner: no other crate cites these.
pub mod Text
pub mod Orders
pub mod Json
pub mod Stated
