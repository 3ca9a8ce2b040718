mod StoreLemmas
mod ThereLemmas
mod DraftLemmas
