pub mod Passes
-- Inner: no other crate cites these.
pub mod Claims
pub mod Rule
pub mod Told
pub mod Closing
pub mod Shows
pub mod Laws
