-- Where a tile is cut into tile-parts (ITU-T T.800, A.4.2).
pub mod Groups
