pub mod RawReading
-- Inner: no other crate cites these.
pub mod RawWriting
