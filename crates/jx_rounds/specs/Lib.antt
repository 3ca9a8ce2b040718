pub mod Tiles
pub mod Taken
pub mod Sent
pub mod FileBytes
pub mod Tapes
pub mod Halts
pub mod Rounds
pub mod Heads
pub mod Files
-- Inner: no other crate cites these.
pub mod MadeRounds
pub mod PackedTiles
