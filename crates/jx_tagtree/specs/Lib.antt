pub mod Header
pub mod Shape
pub mod TagTree
pub mod Leaves
pub mod Questions
pub mod Past
pub mod Scan
-- Inner: no other crate cites these.
pub mod Place
pub mod Kept
pub mod KeptLeaves
pub mod Forms
