-- Definitions of JP2 boxes.
pub mod Codestream
pub mod Lines
pub mod Trees
pub mod Wrapped
pub mod Names
pub mod Positions
-- Inner: no other crate cites these.
pub mod Heads
pub mod Kinds
