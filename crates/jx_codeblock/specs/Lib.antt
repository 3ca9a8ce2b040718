pub mod Recoding
pub mod Jobs
pub mod Recoded
pub mod Laws
pub mod Written
pub mod FirstLayers
-- Inner: no other crate cites these.
pub mod Segments
pub mod Tables
pub mod Groups
pub mod Starts
pub mod Held
pub mod Learnt
