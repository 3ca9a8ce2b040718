mod EntryLemmas
mod ExtentLemmas
mod FileLemmas
pub mod FiledLemmas
pub mod FrontLemmas
pub mod IndexLemmas
mod MeasureLemmas
mod MemoryLemmas
mod PackedLemmas
mod PartLemmas
pub mod TakenLemmas
mod TapedLemmas
pub mod SentLemmas
mod TileLemmas
pub mod WriteLemmas
