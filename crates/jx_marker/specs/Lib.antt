pub mod Codes
pub mod Markers
pub mod Values
pub mod Segments
pub mod RuleNumbers
pub mod Rules
pub mod Ranges
pub mod Laws
