pub mod Tapes
pub mod Told
-- Inner: no other crate cites these.
pub mod Workers
pub mod Committed
pub mod Stops
