mod TextLemmas
mod CutLemmas
mod SpellLemmas
