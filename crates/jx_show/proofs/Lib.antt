mod SumLemmas
mod TileLemmas
mod TextLemmas
