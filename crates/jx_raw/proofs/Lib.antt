pub mod Agreeing
pub mod Back
mod Bytes
pub mod Lengths
pub mod Looking
pub mod Reading
mod Told
mod Writing
