mod SentLemmas
mod LeftLemmas
mod JobLemmas
mod OneLemmas
mod CrowdLemmas
mod LayerLemmas
mod BlocksByRule
mod LowestLemmas
mod FactLemmas
pub mod CausalLemmas
mod AlikeLemmas
mod WrittenLemmas
mod ChangeLemmas
mod CodingLemmas
pub mod EntryLemmas
mod StandLemmas
mod PocLemmas
mod ZeroLemmas
mod ReadLemmas
pub mod StreamLemmas
mod RangeLemmas
mod MoreLemmas
pub mod ReadBackLemmas
mod CoverLemmas
mod SameLemmas
mod BlockLemmas
mod ViewLemmas
mod PlainLemmas
mod LayerLaws
pub mod PlanLemmas
mod StrayLemmas
mod TileJobLemmas
mod BlocksWritten
mod MeaningLemmas
mod CauseLemmas
mod QuestionLemmas
mod AnswerLemmas
mod PlannedLemmas
mod FitLemmas
mod PartedLemmas
