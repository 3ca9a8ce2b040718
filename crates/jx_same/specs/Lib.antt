pub mod Items
pub mod Within
-- Inner: no other crate cites these.
pub mod Sides
pub mod Lists
pub mod Shared
pub mod Runs
pub mod Sayings
