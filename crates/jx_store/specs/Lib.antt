pub mod Setup
pub mod Machine
pub mod Legal
pub mod Order
pub mod Valid
-- Inner: no other crate cites these.
pub mod Sums
