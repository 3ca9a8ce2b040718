pub mod Reduction
pub mod Unreducible
pub mod Left
