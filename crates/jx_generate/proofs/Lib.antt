mod DrawnLemmas
mod ListLemmas
mod GeometryLemmas
mod DrawnFits
mod PrecinctLemmas
mod PictureLemmas
mod WriterLemmas
mod RangeLemmas
mod ReadLemmas
mod OrderLemmas
mod OneLayer
mod FillLemmas
pub mod WrittenLemmas
mod WellLemmas
pub mod HeaderBits
pub mod ShortLemmas
mod PlainLemmas
