-- What a codestream's headers and tile-parts are, and the first rule that a file violates (ITU-T T.800, Annex A).
pub mod Faults
pub mod Held
pub mod Headers
pub mod Kinds
pub mod PackedHeaders
pub mod Parts
pub mod Tiles
pub mod TileHeaders
pub mod Params
pub mod Shapes
pub mod Index
pub mod First
pub mod Spells
pub mod Read
pub mod FirstViolated
pub mod InRange
-- Inner: no other crate cites these.
pub mod BandNumbers
