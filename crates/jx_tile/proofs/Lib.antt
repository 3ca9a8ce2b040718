pub mod TotalLemmas
pub mod CoveredLemmas
pub mod FewPackets
pub mod FrameLemmas
pub mod BandLemmas
