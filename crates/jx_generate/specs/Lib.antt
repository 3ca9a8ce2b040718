pub mod Headers
pub mod Made
pub mod Reading
pub mod Plain
pub mod OneLayer
pub mod Packets
-- Inner: no other crate cites these.
pub mod Random
pub mod Drawn
pub mod Values
pub mod Making
