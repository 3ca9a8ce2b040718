mod ShortLemmas
mod TableRows
