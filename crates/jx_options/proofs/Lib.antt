mod FindLemmas
pub mod ItemLemmas
mod ListLemmas
pub mod NumberLemmas
mod PartLemmas
pub mod OrderWords
pub mod SpellLemmas
pub mod StyleLemmas
pub mod ValueLemmas
pub mod VolumeLemmas
mod VolumeTexts
