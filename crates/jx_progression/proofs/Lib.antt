pub mod ExistLemmas
mod LessLemmas
mod SpreadLemmas
pub mod OrderLemmas
mod KeyLemmas
mod RowLemmas
mod FlatLemmas
mod GroupLemmas
mod OrderCases
mod SortLemmas
mod PlacesLemmas
mod BoundsLemmas
mod SomeLemmas
mod RepeatLemmas
mod TableLemmas
mod CoveredLemmas
pub mod RiseLemmas
mod BeginLemmas
mod PlaceLemmas
mod PointLemmas
mod NestLemmas
mod MemberLemmas
mod PlaceLoops
mod LoopLaws
