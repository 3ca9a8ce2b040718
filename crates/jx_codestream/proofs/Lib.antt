pub mod FaultLemmas
mod HeaderLemmas
mod PartLemmas
mod TileLemmas
mod IndexLemmas
mod ScanLemmas
mod FirstLemmas
mod SpellLemmas
mod WholeLemmas
pub mod OneLemmas
mod PartsReadLemmas
mod UniqueLemmas
mod FrontLemmas
mod ViolatedLemmas
pub mod SegmentLemmas
pub mod ShapeLemmas
pub mod PlaneLemmas
mod EntryLemmas
pub mod RangeLemmas
pub mod BareLemmas
mod CodingLemmas
mod NamedLemmas
mod ViewLemmas
mod PutLemmas
pub mod KindLemmas
mod BandLemmas
mod PackedLemmas
pub mod SharesLemmas
mod PieceLemmas
