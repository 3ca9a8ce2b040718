mod ComponentLemmas
pub mod CountLemmas
pub mod EmptyLemmas
mod LawLemmas
pub mod LeafLemmas
pub mod NumberLemmas
mod NumberedLeaves
pub mod PrecinctLemmas
mod RectLemmas
pub mod SameLemmas
mod SetLemmas
pub mod SizeLemmas
pub mod SpanLemmas
mod StepLemmas
pub mod TableLemmas
pub mod TileLemmas
