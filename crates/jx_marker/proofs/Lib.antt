mod ValueLemmas
pub mod RuleLemmas
mod PutLemmas
mod ClearLemmas
mod FrontLemmas
pub mod SpelledLemmas
mod CutLemmas
pub mod ReadLemmas
mod OneLemmas
