mod TapeLemmas
mod PassLemmas
mod FrontLemmas
pub mod UpToLemmas
