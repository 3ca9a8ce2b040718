pub mod Words
pub mod Parts
pub mod Packet
pub mod Scan
pub mod Frame
pub mod Precinct
pub mod Written
pub mod Leafs
pub mod Writable
pub mod LeavesFit
pub mod Kept
-- Inner: no other crate cites these.
pub mod Said
pub mod Unread
pub mod ReadBack
