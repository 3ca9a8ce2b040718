pub mod Faults
pub mod Totals
pub mod Covered
pub mod Cells
pub mod Frame
