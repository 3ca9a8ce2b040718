pub mod Rule
pub mod Planners
-- Inner: no other crate cites these.
pub mod Texts
pub mod Cuts
