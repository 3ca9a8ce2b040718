-- Inner: no other crate cites these.
pub mod Beside
pub mod BlockPasses
pub mod Blocks
pub mod Contexts
pub mod InStep
pub mod Joined
pub mod Marks
pub mod Noting
pub mod Numbers
pub mod Places
pub mod Placing
pub mod Sights
pub mod Signs
pub mod Walking
pub mod WordPasses
pub mod WordScan
