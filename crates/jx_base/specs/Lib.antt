-- Definitions that several crates cite.
pub mod Bands
pub mod Joined
pub mod Limits
pub mod Markers
pub mod Numbers
pub mod OrderNumbers
pub mod Places
pub mod Passes
pub mod Pieces
pub mod ShortLists
pub mod Sound
pub mod Texts
