mod GatherLemmas
mod DataLemmas
mod PacketLemmas
mod PieceLemmas
mod PartLemmas
mod BodyLemmas
mod PutLemmas
mod MarkLemmas
mod GrowLemmas
mod NumberLemmas
mod BlockLemmas
pub mod CellLemmas
pub mod FreshLemmas
mod TurnLemmas
mod OnceLemmas
mod TrackLemmas
pub mod SoundLemmas
mod ReadyLemmas
mod TileLemmas
mod ListLemmas
pub mod FrontLemmas
mod LaidLemmas
pub mod LaidTiles
pub mod LaidBlocks
mod FewLemmas
pub mod BlockOfLemmas
mod LeafLemmas
pub mod CarryLemmas
mod KeptLemmas
mod HeadRanges
mod HeadLemmas
mod EitherLemmas
pub mod FillLemmas
pub mod PlannedLemmas
mod LayersFew
mod CutRuns
pub mod FitLemmas
pub mod PlanLemmas
pub mod ListedLemmas
pub mod CoverEither
mod PartCuts
pub mod AnotherLemmas
mod InPlaceLemmas
mod InPlaceTiles
