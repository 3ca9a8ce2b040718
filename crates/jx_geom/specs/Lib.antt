-- Tiles, tile-components, resolutions, bands, precincts and code-blocks (ITU-T T.800, Annex B).
pub mod Ranges
pub mod Spans
pub mod Rects
pub mod Sizes
pub mod Counts
pub mod Geometry
pub mod Leaves
pub mod Numbering
pub mod Precincts
pub mod Resolutions
pub mod Same
-- Inner: no other crate cites these.
pub mod Sets
pub mod Grids
