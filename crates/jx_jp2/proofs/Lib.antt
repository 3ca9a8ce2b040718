mod HeadLemmas
mod FindLemmas
mod PositionLemmas
mod NameLemmas
mod TreeLemmas
mod LineLemmas
mod WrapLemmas
