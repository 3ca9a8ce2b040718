-- Inner: no other crate cites these.
pub mod Planned
pub mod MemPlan
pub mod SinkPlan
