mod WordLemmas
mod FrontLemmas
mod LongLemmas
mod MadeLemmas
mod NotedLemmas
mod ZerosLemmas
mod AskLemmas
pub mod BlockLemmas
mod SettledLemmas
mod StopLemmas
mod StopBlockLemmas
pub mod BandLemmas
mod BandLoopLemmas
mod RowLemmas
pub mod PacketLemmas
mod KindLemmas
mod StuffedLemmas
mod StopBandLemmas
pub mod FreshLemmas
pub mod PutLemmas
mod FirstLemmas
pub mod WriteLemmas
mod EntryLemmas
pub mod PlanLemmas
pub mod LayerLemmas
pub mod AgreeLemmas
mod CursorLemmas
mod QuietLemmas
