pub mod HeaderLemmas
pub mod WriterLemmas
pub mod LawLemmas
pub mod ShapeLemmas
mod ScanLemmas
pub mod WayLemmas
pub mod TagLemmas
pub mod LeafLemmas
pub mod QuestionLemmas
mod PastLemmas
mod OneLeafLemmas
